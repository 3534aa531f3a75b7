-- The channels that a task receives from ascend.
use Rattle.std.specs.Prelude.{replicate}
use Rattle.std.proofs.Common.{ℕ, zero, suc, ◌+◌, ◌<◌, ◌≤◌, ◌≡◌, inl, inr, refl, sym, subst, List, [], ◌∷◌, ◌++◌, length, get_or, map, Bool, true, false, arith}
use Rattle.std.proofs.lemmas.List.{length-append}
use Rattle.plan_props.specs.Satisfies.{partition_count}
use Rattle.physical_plan.specs.declared.plan.Plan.{Plan}
use Rattle.physical_plan.specs.declared.plan.Plan.TheOpen.{Plan-F}
use Rattle.physical_plan.specs.declared.plan.Plan.TheViews.{roll-Plan}
use Rattle.physical_plan.specs.declared.plan.Plan.TheFolds.{fold-roll-Plan, map-Plan, ind-Plan}
use Rattle.plan_shape.specs.Layout.{Part, Stage, Laid, Laying, laid, bare, lay, layout, consuming, beside, reader, readers, merger, opened, laid_beside, laid_after, with_consumer, end_to_end, tasks_of, tail_of, tasks_from, spills_of, stages_of, shape}
use Rattle.physical_plan.specs.Numbers.{numbers, numbers_from}
use Rattle.task_shape.specs.Shape.{TaskShape, no_task, task_at, Ascends}

-- the channels ascend, of groups from k on and below m
abbrev Among : ℕ → ℕ → List (ℕ × ℕ) → Type 0
Among k m [] = Unit {0}
Among k m (x ∷ xs) = (k ≤ x.0) × (x.0 < m) × Among k m xs

abbrev Rises : ℕ → ℕ → List (ℕ × ℕ) → Type 0
Rises k m xs = Ascends xs × Among k m xs

abbrev AllRise : ℕ → ℕ → List Part → Type 0
AllRise k m [] = Unit {0}
AllRise k m (p ∷ ps) = Rises k m p.receives × AllRise k m ps

abbrev AllAscend : List Part → Type 0
AllAscend [] = Unit {0}
AllAscend (p ∷ ps) = Ascends p.receives × AllAscend ps

abbrev StagesAscend : List Stage → Type 0
StagesAscend [] = Unit {0}
StagesAscend (x ∷ xs) = AllAscend x.parts × StagesAscend xs

record IsRising (k : ℕ) (l : Laid) : Type 0 where
  parts : AllRise k (k + length l.stages) l.parts
  stages : StagesAscend l.stages

-- ---- lists of channels

among_wider : (k m i j : ℕ) (xs : List (ℕ × ℕ)) → i ≤ k → m ≤ j → Among k m xs → Among i j xs
among_wider k m i j [] a b h = tt
among_wider k m i j (x ∷ xs) a b h =
    let lo : k ≤ x.0 = h.0 in
    let hi : x.0 < m = h.1 in
    (omega arith, omega arith, among_wider k m i j xs a b h.2)

among_both : (k m : ℕ) (xs ys : List (ℕ × ℕ)) → Among k m xs → Among k m ys → Among k m (xs ++ ys)
among_both k m [] ys h i = i
among_both k m (x ∷ xs) ys h i = (h.0, h.1, among_both k m xs ys h.2 i)

-- those of the one list are of groups below j, those of the other of groups from j on
ascends_both : (k j m : ℕ) (xs ys : List (ℕ × ℕ)) → Rises k j xs → Rises j m ys → Ascends (xs ++ ys)
ascends_both k j m [] ys h i = i.0
ascends_both k j m (x ∷ []) [] h i = tt
ascends_both k j m (x ∷ []) (y ∷ ys) h i = (
  inl (let l : x.0 < j = h.1.1 in let r : j ≤ y.0 = i.1.0 in omega arith),
  i.0,
)
ascends_both k j m (x ∷ z ∷ xs) ys h i = (h.0.0, ascends_both k j m (z ∷ xs) ys (h.0.1, h.1.2) i)

rises_both : (k j m : ℕ) (xs ys : List (ℕ × ℕ)) → k ≤ j → j ≤ m → Rises k j xs → Rises j m ys → Rises k m (xs ++ ys)
rises_both k j m xs ys a b h i = (
  ascends_both k j m xs ys h i,
  among_both k m xs ys (among_wider k j k m xs (omega arith) b h.1) (among_wider j m k m ys a (omega arith) i.1),
)

-- ---- partitions

all_wider : (k m i j : ℕ) (ps : List Part) → i ≤ k → m ≤ j → AllRise k m ps → AllRise i j ps
all_wider k m i j [] a b h = tt
all_wider k m i j (p ∷ ps) a b h = ((h.0.0, among_wider k m i j p.receives a b h.0.1), all_wider k m i j ps a b h.1)

all_after : (k m : ℕ) (ps qs : List Part) → AllRise k m ps → AllRise k m qs → AllRise k m (ps ++ qs)
all_after k m [] qs h i = i
all_after k m (p ∷ ps) qs h i = (h.0, all_after k m ps qs h.1 i)

all_consuming : (b : Bool) (k m : ℕ) (ps : List Part) → AllRise k m ps → AllRise k m (map (consuming b) ps)
all_consuming b k m [] h = tt
all_consuming b k m (p ∷ ps) h = (h.0, all_consuming b k m ps h.1)

all_beside : (k j m : ℕ) (ps qs : List Part) → k ≤ j → j ≤ m → AllRise k j ps → AllRise j m qs → AllRise k m (beside ps qs)
all_beside k j m [] qs a b h i = all_wider j m k m qs a (omega arith) i
all_beside k j m (p ∷ ps) [] a b h i = all_wider k j k m (p ∷ ps) (omega arith) b h
all_beside k j m (p ∷ ps) (q ∷ qs) a b h i = (rises_both k j m p.receives q.receives a b h.0 i.0, all_beside k j m ps qs a b h.1 i.1)

all_bare : (k m n : ℕ) → AllRise k m (replicate n bare)
all_bare k m zero = tt
all_bare k m (suc n) = ((tt, tt), all_bare k m n)

all_readers : (k m : ℕ) (cs : List ℕ) → k < m → AllRise k m (map (λ (c : ℕ). reader k c) cs)
all_readers k m [] l = tt
all_readers k m (c ∷ cs) l = ((tt, (omega arith, l, tt)), all_readers k m cs l)

merger_ascends : (g at n : ℕ) → Ascends (map (λ (c : ℕ). (g, c)) (numbers_from at n))
merger_ascends g at zero = tt
merger_ascends g at (suc zero) = tt
merger_ascends g at (suc (suc n)) = (inr (refl, omega arith), merger_ascends g (at + 1) (suc n))

merger_among : (k m : ℕ) (cs : List ℕ) → k < m → Among k m (map (λ (c : ℕ). (k, c)) cs)
merger_among k m [] l = tt
merger_among k m (c ∷ cs) l = (omega arith, l, merger_among k m cs l)

all_ascend : (k m : ℕ) (ps : List Part) → AllRise k m ps → AllAscend ps
all_ascend k m [] h = tt
all_ascend k m (p ∷ ps) h = (h.0.0, all_ascend k m ps h.1)

stages_both : (xs ys : List Stage) → StagesAscend xs → StagesAscend ys → StagesAscend (xs ++ ys)
stages_both [] ys h i = i
stages_both (x ∷ xs) ys h i = (h.0, stages_both xs ys h.1 i)

-- ---- subtrees

opened_rises : (k w : ℕ) (above : List Part) (targets : List (List ℕ)) (l : Laid) → ((m : ℕ) → k < m → AllRise k m above) → IsRising (k + 1) l → IsRising k (opened above targets w l)
opened_rises k w above targets l a h = record {
  parts = a (k + suc (length l.stages)) (omega arith);
  stages = (all_ascend (k + 1) (k + 1 + length l.stages) l.parts h.parts, h.stages);
}

-- what stands behind another subtree, and the partitions of both
both_rise : (k : ℕ) (l r : Laid) (ps : List Part) → IsRising k l → IsRising (k + length l.stages) r
    → (AllRise k (k + length l.stages) l.parts → AllRise (k + length l.stages) (k + length l.stages + length r.stages) r.parts → AllRise k (k + length l.stages + length r.stages) ps)
    → IsRising k (laid ps (l.stages ++ r.stages))
both_rise k l r ps h i f =
    let s = length-append l.stages r.stages in
    let e : k + length l.stages + length r.stages ≡ k + length (l.stages ++ r.stages) = omega arith in
    record {
      parts = subst (λ (m : ℕ). AllRise k m ps) e (f h.parts i.parts);
      stages = stages_both l.stages r.stages h.stages i.stages;
    }

join_rises : (k : ℕ) (l r : Laid) → IsRising k l → IsRising (k + length l.stages) r → IsRising k (laid_beside l r)
join_rises k l r h i =
    let j = k + length l.stages in
    let m = k + length l.stages + length r.stages in
    both_rise k l r (map (consuming false) (beside l.parts r.parts)) h i
    (λ a b. all_consuming false k m (beside l.parts r.parts) (all_beside k j m l.parts r.parts (omega arith) (omega arith) a b))

after_rises : (k : ℕ) (l r : Laid) → IsRising k l → IsRising (k + length l.stages) r → IsRising k (laid_after l r)
after_rises k l r h i =
    let j = k + length l.stages in
    let m = k + length l.stages + length r.stages in
    both_rise k l r (l.parts ++ r.parts) h i
    (λ a b. all_after k m l.parts r.parts (all_wider k j k m l.parts (omega arith) (omega arith) a) (all_wider j m k m r.parts (omega arith) (omega arith) b))

consumer_rises : (b : Bool) (k : ℕ) (l : Laid) → IsRising k l → IsRising k (with_consumer b l)
consumer_rises b k l h = record { parts = all_consuming b k (k + length l.stages) l.parts h.parts; stages = h.stages }

-- ---- every plan

abbrev Rising : Plan → Type 0
Rising p = (k : ℕ) → IsRising k (layout p k)

abbrev Known : Type 0
Known = (p : Plan) × Rising p

level : (z : Plan-F Plan) → ((k : ℕ) → IsRising k (lay (map-Plan Plan Laying layout z) k)) → Rising (roll-Plan z)
unfolding layout
level z h k = subst (λ (f : Laying). IsRising k (f k)) (sym (fold-roll-Plan Laying lay z)) (h k)

united : (ps : List Known) (k : ℕ) → IsRising k (end_to_end (map layout (map (λ (p : Known). p.0) ps)) k)
united [] k = record { parts = tt; stages = tt }
united (p ∷ ps) k =
    let n = length (layout p.0 k).stages in
    after_rises k (layout p.0 k) (end_to_end (map layout (map (λ (p : Known). p.0) ps)) (k + n)) (p.1 k) (united ps (k + n))

step : (y : Plan-F Known) → Rising (roll-Plan (map-Plan Known Plan (λ k. k.0) y))
step (Plan-F.Scan table kinds files partitions) = level (Plan-F.Scan table kinds files partitions) (λ k. record { parts = all_bare k (k + 0) partitions; stages = tt })
step (Plan-F.Filter input test) = level (Plan-F.Filter input.0 test) input.1
step (Plan-F.Project input items) = level (Plan-F.Project input.0 items) input.1
step (Plan-F.PartialGroup input keys calls) = level (Plan-F.PartialGroup input.0 keys calls) (λ k. consumer_rises true k (layout input.0 k) (input.1 k))
step (Plan-F.FinalGroup input keys calls) = level (Plan-F.FinalGroup input.0 keys calls) (λ k. consumer_rises false k (layout input.0 k) (input.1 k))
step (Plan-F.HashJoin kind left right keys rest) = level (Plan-F.HashJoin kind left.0 right.0 keys rest) (λ k.
    let n = length (layout left.0 k).stages in
    join_rises k (layout left.0 k) (layout right.0 (k + n)) (left.1 k) (right.1 (k + n)))
step (Plan-F.Sort input keys) = level (Plan-F.Sort input.0 keys) (λ k. consumer_rises true k (layout input.0 k) (input.1 k))
step (Plan-F.Merge input keys) = level (Plan-F.Merge input.0 keys) (λ k.
    let l = layout input.0 (k + 1) in
    let n = length l.parts in
    opened_rises k n (merger k n ∷ []) (map (λ (c : ℕ). c ∷ []) (numbers n)) l (λ m h. ((merger_ascends k 0 n, merger_among k m (numbers n) h), tt)) (input.1 (k + 1)))
step (Plan-F.Coalesce input) = level (Plan-F.Coalesce input.0) (λ k.
    let l = layout input.0 (k + 1) in
    opened_rises k 1 (readers k 1) (map (λ (p : Part). 0 ∷ []) l.parts) l (λ m h. all_readers k m (numbers 1) h) (input.1 (k + 1)))
step (Plan-F.Repartition input to) = level (Plan-F.Repartition input.0 to) (λ k.
    let l = layout input.0 (k + 1) in
    let n = partition_count to in
    opened_rises k n (readers k n) (map (λ (p : Part). numbers n) l.parts) l (λ m h. all_readers k m (numbers n) h) (input.1 (k + 1)))
step (Plan-F.UnionAll inputs) = level (Plan-F.UnionAll (map (λ (k : Known). k.0) inputs)) (united inputs)
step (Plan-F.Limit input skip fetch) = level (Plan-F.Limit input.0 skip fetch) input.1

every_rising : (p : Plan) → Rising p
every_rising = ind-Plan Rising (λ x y is. subst (λ z. Rising (roll-Plan z)) is (step y))

-- ---- tasks

abbrev TasksAscend : List TaskShape → Type 0
TasksAscend [] = Unit {0}
TasksAscend (t ∷ ts) = Ascends t.receives × TasksAscend ts

tasks_both : (ts us : List TaskShape) → TasksAscend ts → TasksAscend us → TasksAscend (ts ++ us)
tasks_both [] us h i = i
tasks_both (t ∷ ts) us h i = (h.0, tasks_both ts us h.1 i)

stage_tasks : (s c : ℕ) (ps : List Part) (ts : List (List ℕ)) → AllAscend ps → TasksAscend (tasks_of s c ps ts)
stage_tasks s c [] ts h = tt
stage_tasks s c (p ∷ ps) ts h = (h.0, stage_tasks s (c + length p.consumers) ps (tail_of ts) h.1)

all_tasks : (s c : ℕ) (xs : List Stage) → StagesAscend xs → TasksAscend (tasks_from s c xs)
all_tasks s c [] h = tt
all_tasks s c (x ∷ xs) h =
    let d = c + length (spills_of x.parts) in
    tasks_both (tasks_of s c x.parts x.targets) (tasks_from (s + 1) d xs) (stage_tasks s c x.parts x.targets h.0) (all_tasks (s + 1) d xs h.1)

task_ascends : (ts : List TaskShape) (t : ℕ) → TasksAscend ts → Ascends (get_or ts t no_task).receives
task_ascends [] t h = tt
task_ascends (x ∷ ts) zero h = h.0
task_ascends (x ∷ ts) (suc t) h = task_ascends ts t h.1

pub ascending : (p : Plan) (t : ℕ) → Ascends (task_at (shape p) t).receives
unfolding shape
ascending p t =
    let l = every_rising p 1 in
    task_ascends (tasks_from 0 0 (stages_of (layout p 1))) t
    (all_tasks 0 0 (stages_of (layout p 1)) (all_ascend 1 (1 + length (layout p 1).stages) (layout p 1).parts l.parts, l.stages))
