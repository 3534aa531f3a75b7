-- Each stage has as many tasks as are counted.
use Rattle.std.proofs.Common.{ℕ, zero, suc, ◌+◌, ◌-◌, ◌<◌, ◌≤◌, ◌≡◌, refl, sym, ap, ◌∙◌, subst, Bool, true, false, Option, List, [], ◌∷◌, ◌++◌, length, map, max, drop, slice_set, append_assoc, arith, zero-add}
use Rattle.plan_props.specs.Satisfies.{partition_count}
use Rattle.task_shape.specs.Shape.{TaskShape}
use Rattle.physical_plan.specs.declared.plan.Plan.{Plan}
use Rattle.physical_plan.specs.declared.plan.Plan.TheOpen.{Plan-F}
use Rattle.physical_plan.specs.declared.plan.Plan.TheVariants.{Scan, HashJoin}
use Rattle.dfx_value.specs.declared.kind.Kind.{Kind}
use Rattle.dfx_value.specs.declared.op.JoinKind.{JoinKind}
use Rattle.scalar_exprs.specs.declared.expr.Expr.{Expr}
use Rattle.physical_plan.specs.declared.plan.Plan.TheViews.{roll-Plan}
use Rattle.physical_plan.specs.declared.plan.Plan.TheFolds.{fold-roll-Plan, map-Plan, ind-Plan}
use Rattle.plan_shape.specs.declared.counting.StageTask.{StageTask}
use Rattle.plan_shape.specs.Counts.{Counted, counted, above, both, in_all, count_node, counts_of, places, places_from}
use Rattle.plan_shape.specs.Layout.{Part, Stage, Laid, Laying, bare, lay, layout, consuming, beside, reader, exchanged, laid_beside, laid_after, with_consumer, end_to_end, stages_of, stage_tasks, tasks_by_stage, stages, tasks_of, tail_of, tasks_from, spills_of, shape}
use Rattle.physical_plan.specs.Numbers.{numbers, numbers_from}
use Rattle.plan_shape.proofs.Nodes.{counts-Scan, counts-Filter, counts-Project, counts-PartialGroup, counts-FinalGroup, counts-HashJoin, counts-Sort, counts-Merge, counts-Coalesce, counts-Repartition, counts-UnionAll, counts-Limit}

pub ruleset count_nodes = (counts-Scan, counts-Filter, counts-Project, counts-PartialGroup, counts-FinalGroup, counts-HashJoin, counts-Sort, counts-Merge, counts-Coalesce, counts-Repartition, counts-UnionAll, counts-Limit)

-- ---- lists

pub set_here : (xs ys : List ℕ) (x y : ℕ) → slice_set ((xs ++ x ∷ []) ++ ys) (length xs) y ≡ xs ++ y ∷ ys
set_here [] ys x y = refl
set_here (z ∷ xs) ys x y = ap (λ (zs : List ℕ). z ∷ zs) (set_here xs ys x y)

length_each : {A B : Type 0} (f : A → B) (xs : List A) → length (map f xs) ≡ length xs
length_each f [] = refl
length_each f (x ∷ xs) = ap suc (length_each f xs)

length_both : {A : Type 0} (xs ys : List A) → length (xs ++ ys) ≡ length xs + length ys
length_both [] ys = sym (zero-add _)
length_both (x ∷ xs) ys = let e = length_both xs ys in omega arith

each_both : {A B : Type 0} (f : A → B) (xs ys : List A) → map f (xs ++ ys) ≡ map f xs ++ map f ys
each_both f [] ys = refl
each_both f (x ∷ xs) ys = ap (λ zs. f x ∷ zs) (each_both f xs ys)

numbers_length : (at n : ℕ) → length (numbers_from at n) ≡ n
numbers_length at zero = refl
numbers_length at (suc n) = ap suc (numbers_length (at + 1) n)

beside_length : (ps qs : List Part) → length (beside ps qs) ≡ max (length ps) (length qs)
beside_length [] qs = omega arith
beside_length (p ∷ ps) [] = omega arith
beside_length (p ∷ ps) (q ∷ qs) = let e = beside_length ps qs in omega arith

-- ---- what is counted of a subtree

abbrev of_stage : Stage → ℕ
of_stage s = length s.parts

abbrev count_of : Laid → Counted
count_of l = counted (length l.parts) (map of_stage l.stages)

count_scan : (n : ℕ) → length (Rattle.std.specs.Prelude.replicate n bare) ≡ n
count_scan zero = refl
count_scan (suc n) = ap suc (count_scan n)

count_consumer : (b : Bool) (l : Laid) → count_of (with_consumer b l) ≡ count_of l
count_consumer b l = ap (λ (n : ℕ). counted n (map of_stage l.stages)) (length_each (consuming b) l.parts)

count_exchanged : (n k : ℕ) (l : Laid) → count_of (exchanged n k l) ≡ above n (count_of l)
count_exchanged n k l = ap (λ (m : ℕ). counted m (length l.parts ∷ map of_stage l.stages)) (length_each (λ (c : ℕ). reader k c) (numbers n) ∙ numbers_length 0 n)

count_beside : (l r : Laid) → count_of (laid_beside l r) ≡ both (count_of l) (count_of r)
count_beside l r =
    ap (λ (n : ℕ). counted n (map of_stage (l.stages ++ r.stages))) (length_each (consuming false) (beside l.parts r.parts) ∙ beside_length l.parts r.parts)
    ∙ ap (λ (ns : List ℕ). counted (max (length l.parts) (length r.parts)) ns) (each_both of_stage l.stages r.stages)

count_after : (l r : Laid) → count_of (laid_after l r) ≡ counted (length l.parts + length r.parts) (map of_stage l.stages ++ map of_stage r.stages)
count_after l r =
    ap (λ (n : ℕ). counted n (map of_stage (l.stages ++ r.stages))) (length_both l.parts r.parts)
    ∙ ap (λ (ns : List ℕ). counted (length l.parts + length r.parts) ns) (each_both of_stage l.stages r.stages)

abbrev IsCounted : Plan → Type 0
IsCounted p = (k : ℕ) → count_of (layout p k) ≡ counts_of p

abbrev Known : Type 0
Known = (p : Plan) × IsCounted p

level : (z : Plan-F Plan) → ((k : ℕ) → count_of (lay (map-Plan Plan Laying layout z) k) ≡ count_node (map-Plan Plan Counted counts_of z)) → IsCounted (roll-Plan z)
unfolding layout counts_of
level z h k = ap (λ (f : Laying). count_of (f k)) (fold-roll-Plan Laying lay z) ∙ h k ∙ sym (fold-roll-Plan Counted count_node z)

all_counted : (ps : List Known) (k : ℕ) → count_of (end_to_end (map layout (map (λ (p : Known). p.0) ps)) k) ≡ in_all (map counts_of (map (λ (p : Known). p.0) ps))
all_counted [] k = refl
all_counted (p ∷ ps) k =
    count_after (layout p.0 k) (end_to_end (map layout (map (λ (p : Known). p.0) ps)) (k + length (layout p.0 k).stages))
    ∙ ap (λ (c : Counted). counted (c.parts + length (end_to_end (map layout (map (λ (p : Known). p.0) ps)) (k + length (layout p.0 k).stages)).parts) (c.stages ++ map of_stage (end_to_end (map layout (map (λ (p : Known). p.0) ps)) (k + length (layout p.0 k).stages)).stages)) (p.1 k)
    ∙ ap (λ (c : Counted). counted ((counts_of p.0).parts + c.parts) ((counts_of p.0).stages ++ c.stages)) (all_counted ps (k + length (layout p.0 k).stages))

step : (y : Plan-F Known) → IsCounted (roll-Plan (map-Plan Known Plan (λ k. k.0) y))
step (Plan-F.Scan table kinds files partitions) = level (Plan-F.Scan table kinds files partitions) (λ k. ap (λ (n : ℕ). counted n []) (count_scan partitions))
step (Plan-F.Filter input test) = level (Plan-F.Filter input.0 test) input.1
step (Plan-F.Project input items) = level (Plan-F.Project input.0 items) input.1
step (Plan-F.PartialGroup input keys calls) = level (Plan-F.PartialGroup input.0 keys calls) (λ k. count_consumer true (layout input.0 k) ∙ input.1 k)
step (Plan-F.FinalGroup input keys calls) = level (Plan-F.FinalGroup input.0 keys calls) (λ k. count_consumer false (layout input.0 k) ∙ input.1 k)
step (Plan-F.HashJoin kind left right keys rest) = level (Plan-F.HashJoin kind left.0 right.0 keys rest) (λ k.
    count_beside (layout left.0 k) (layout right.0 (k + length (layout left.0 k).stages))
    ∙ ap (λ (c : Counted). both c (count_of (layout right.0 (k + length (layout left.0 k).stages)))) (left.1 k)
    ∙ ap (λ (c : Counted). both (counts_of left.0) c) (right.1 (k + length (layout left.0 k).stages)))
step (Plan-F.Sort input keys) = level (Plan-F.Sort input.0 keys) (λ k. count_consumer true (layout input.0 k) ∙ input.1 k)
step (Plan-F.Merge input keys) = level (Plan-F.Merge input.0 keys) (λ k. ap (above 1) (input.1 (k + 1)))
step (Plan-F.Coalesce input) = level (Plan-F.Coalesce input.0) (λ k. ap (above 1) (input.1 (k + 1)))
step (Plan-F.Repartition input to) = level (Plan-F.Repartition input.0 to) (λ k. count_exchanged (partition_count to) k (layout input.0 (k + 1)) ∙ ap (above (partition_count to)) (input.1 (k + 1)))
step (Plan-F.UnionAll inputs) = level (Plan-F.UnionAll (map (λ (k : Known). k.0) inputs)) (all_counted inputs)
step (Plan-F.Limit input skip fetch) = level (Plan-F.Limit input.0 skip fetch) input.1

pub every_counted : (p : Plan) → IsCounted p
every_counted = ind-Plan IsCounted (λ x y is. subst (λ z. IsCounted (roll-Plan z)) is (step y))

-- ---- tasks by stage

stage_places : (s i : ℕ) (ps : List Part) → stage_tasks s i ps ≡ places s i (length ps)
stage_places s i [] = refl
stage_places s i (p ∷ ps) = ap (λ (ts : List StageTask). record { stage = s; partition = i } ∷ ts) (stage_places s (i + 1) ps)

by_stage : (s : ℕ) (xs : List Stage) → tasks_by_stage s xs ≡ places_from s (map of_stage xs)
by_stage s [] = refl
by_stage s (x ∷ xs) =
    ap (λ (ts : List StageTask). ts ++ tasks_by_stage (s + 1) xs) (stage_places s 0 x.parts)
    ∙ ap (λ (ts : List StageTask). places s 0 (length x.parts) ++ ts) (by_stage (s + 1) xs)

stages_counted : (p : Plan) → places_from 0 ((counts_of p).parts ∷ (counts_of p).stages) ≡ stages p
unfolding stages
stages_counted p =
    sym (by_stage 0 (stages_of (layout p 1)) ∙ ap (λ (c : Counted). places_from 0 (c.parts ∷ c.stages)) (every_counted p 1))

places_step : (s i n : ℕ) → i < n → places s i (n - i) ≡ record { stage = s; partition = i } ∷ places s (i + 1) (n - (i + 1))
places_step s i n l = let e : n - i ≡ suc (n - (i + 1)) = omega arith in rw e refl

pub push_step : (xs : List StageTask) (s i n : ℕ) → i < n → (xs ++ record { stage = s; partition = i } ∷ []) ++ places s (i + 1) (n - (i + 1)) ≡ xs ++ places s i (n - i)
push_step xs s i n l = append_assoc xs (record { stage = s; partition = i } ∷ []) (places s (i + 1) (n - (i + 1))) ∙ ap (λ (ts : List StageTask). xs ++ ts) (sym (places_step s i n l))

pub places_end : (s i n : ℕ) → n ≡ i → places s i (n - i) ≡ []
places_end s i n e = let z : n - i ≡ 0 = omega arith in rw z refl

-- ---- what is counted of a node, behind what there was

nothing_more : {A : Type 0} (xs : List A) → xs ++ [] ≡ xs
nothing_more [] = refl
nothing_more (x ∷ xs) = ap (λ zs. x ∷ zs) (nothing_more xs)

pub scan_stages : (xs : List ℕ) (p : Plan) (table : ℕ) (kinds : List Kind) (files n : ℕ) → p ≡ Scan table kinds files n → xs ≡ xs ++ (counts_of p).stages
scan_stages xs p table kinds files n e = sym (ap (λ (q : Plan). xs ++ (counts_of q).stages) e ∙ ap (λ (c : Counted). xs ++ c.stages) (counts-Scan table kinds files n) ∙ nothing_more xs)

pub join_stages : (xs : List ℕ) (p : Plan) (kind : JoinKind) (left right : Plan) (keys : List (ℕ × ℕ)) (rest : Option Expr) → p ≡ HashJoin kind left right keys rest → (xs ++ (counts_of left).stages) ++ (counts_of right).stages ≡ xs ++ (counts_of p).stages
join_stages xs p kind left right keys rest e =
    append_assoc xs (counts_of left).stages (counts_of right).stages
    ∙ sym (ap (λ (q : Plan). xs ++ (counts_of q).stages) e ∙ ap (λ (c : Counted). xs ++ c.stages) (counts-HashJoin kind left right keys rest))

past : (at : ℕ) (ns : List ℕ) → length ns ≤ at → drop at ns ≡ []
past zero [] h = refl
past (suc at) [] h = refl
past zero (n ∷ ns) h = absurd (omega arith)
past (suc at) (n ∷ ns) h = past at ns (omega arith)

pub finished_places : (xs : List StageTask) (at : ℕ) (ns : List ℕ) (p : Plan) → length ns ≤ at → xs ++ places_from at (drop at ns) ≡ places_from 0 ns → ns ≡ (counts_of p).parts ∷ (counts_of p).stages → xs ≡ stages p
finished_places xs at ns p l e f =
    sym (nothing_more xs)
    ∙ ap (λ (ms : List ℕ). xs ++ places_from at ms) (sym (past at ns l))
    ∙ e
    ∙ ap (places_from 0) f
    ∙ stages_counted p

-- ---- the same stages in the shape

tasks_stage : (s i c : ℕ) (ps : List Part) (ts : List (List ℕ)) → map (λ (t : TaskShape). t.stage) (tasks_of s c ps ts) ≡ map (λ (t : StageTask). t.stage) (stage_tasks s i ps)
tasks_stage s i c [] ts = refl
tasks_stage s i c (p ∷ ps) ts = ap (λ (ns : List ℕ). s ∷ ns) (tasks_stage s (i + 1) (c + length p.consumers) ps (tail_of ts))

all_stages : (s c : ℕ) (xs : List Stage) → map (λ (t : TaskShape). t.stage) (tasks_from s c xs) ≡ map (λ (t : StageTask). t.stage) (tasks_by_stage s xs)
all_stages s c [] = refl
all_stages s c (x ∷ xs) =
    each_both (λ (t : TaskShape). t.stage) (tasks_of s c x.parts x.targets) (tasks_from (s + 1) (c + length (spills_of x.parts)) xs)
    ∙ ap (λ (ns : List ℕ). ns ++ map (λ (t : TaskShape). t.stage) (tasks_from (s + 1) (c + length (spills_of x.parts)) xs)) (tasks_stage s 0 c x.parts x.targets)
    ∙ ap (λ (ns : List ℕ). map (λ (t : StageTask). t.stage) (stage_tasks s 0 x.parts) ++ ns) (all_stages (s + 1) (c + length (spills_of x.parts)) xs)
    ∙ sym (each_both (λ (t : StageTask). t.stage) (stage_tasks s 0 x.parts) (tasks_by_stage (s + 1) xs))

pub shape_stages : (p : Plan) → map (λ (t : TaskShape). t.stage) (shape p).tasks ≡ map (λ (t : StageTask). t.stage) (stages p)
unfolding shape stages
shape_stages p = all_stages 0 0 (stages_of (layout p 1))
