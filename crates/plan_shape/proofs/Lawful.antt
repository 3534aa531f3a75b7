-- The shape of every plan has one receiver for each channel, and so on.
use Rattle.std.specs.Prelude.{◌==◌}
use Rattle.std.proofs.Common.{ℕ, zero, suc, ◌+◌, ◌<◌, ◌≤◌, ◌≡◌, ◌≢◌, ◌⊎◌, inl, inr, refl, sym, ap, ◌∙◌, subst, eqb, ltb, cond, Option, Some, None, List, [], ◌∷◌, ◌++◌, length, get_or, map, Bool, true, false, ◌&&◌, ◌||◌, arith, zero-add, add-zero}
use Rattle.std.proofs.lemmas.Bool.{eqb-true, eq-eqb, false≢true, cases_lt}
use Rattle.std.proofs.lemmas.Bool.Decides.{eqb_tells, nat_tests}
use Rattle.physical_plan.specs.declared.plan.Plan.{Plan}
use Rattle.physical_plan.specs.declared.plan.Plan.TheOpen.{Plan-F}
use Rattle.physical_plan.specs.declared.plan.Plan.TheViews.{roll-Plan}
use Rattle.physical_plan.specs.declared.plan.Plan.TheFolds.{fold-roll-Plan, map-Plan, ind-Plan}
use Rattle.plan_props.specs.Satisfies.{partition_count}
use Rattle.plan_shape.specs.Layout.{Part, Stage, Laying, lay, layout, end_to_end, tasks_of, tasks_from, widths_of, stages_of, shape_from, shape, group_of, head_or, tail_of, spills_of}
use Rattle.task_shape.specs.Numbers.{count}
use Rattle.task_shape.specs.Shape.{TaskShape, IsShape, no_task, names, has, is_group}
use Rattle.plan_shape.proofs.Counts.{pair_count, parts_count, stages_count, expected, From, Grow, Aims, AllAim, Sent, IsLaid, scan_laid, consumer_laid, beside_laid, after_laid, exchanged_laid, coalesced_laid, merging_laid}

-- ---- every plan is laid

abbrev Lays : Plan → Type 0
Lays p = (k : ℕ) → IsLaid k (layout p k)

abbrev Known : Type 0
Known = (p : Plan) × Lays p

plan_of : Known → Plan
plan_of k = k.0

level : (z : Plan-F Plan) → ((k : ℕ) → IsLaid k (lay (map-Plan Plan Laying layout z) k)) → Lays (roll-Plan z)
unfolding layout
level z h k = subst (λ (f : Laying). IsLaid k (f k)) (sym (fold-roll-Plan Laying lay z)) (h k)

all_laid : (ps : List Known) (k : ℕ) → IsLaid k (end_to_end (map layout (map (λ (p : Known). p.0) ps)) k)
all_laid [] k = record { total = λ g c. refl; start = λ g c h. absurd (omega arith); grow = tt; sent = tt }
all_laid (p ∷ ps) k = after_laid k (layout p.0 k) (end_to_end (map layout (map (λ (p : Known). p.0) ps)) (k + length (layout p.0 k).stages)) (p.1 k) (all_laid ps (k + length (layout p.0 k).stages))

step : (y : Plan-F Known) → Lays (roll-Plan (map-Plan Known Plan (λ k. k.0) y))
step (Plan-F.Scan table kinds files partitions) = level (Plan-F.Scan table kinds files partitions) (λ k. scan_laid k partitions)
step (Plan-F.Filter input test) = level (Plan-F.Filter input.0 test) input.1
step (Plan-F.Project input items) = level (Plan-F.Project input.0 items) input.1
step (Plan-F.PartialGroup input keys calls) = level (Plan-F.PartialGroup input.0 keys calls) (λ k. consumer_laid true k (layout input.0 k) (input.1 k))
step (Plan-F.FinalGroup input keys calls) = level (Plan-F.FinalGroup input.0 keys calls) (λ k. consumer_laid false k (layout input.0 k) (input.1 k))
step (Plan-F.HashJoin kind left right keys rest) = level (Plan-F.HashJoin kind left.0 right.0 keys rest) (λ k. beside_laid k (layout left.0 k) (layout right.0 (k + length (layout left.0 k).stages)) (left.1 k) (right.1 (k + length (layout left.0 k).stages)))
step (Plan-F.Sort input keys) = level (Plan-F.Sort input.0 keys) (λ k. consumer_laid true k (layout input.0 k) (input.1 k))
step (Plan-F.Merge input keys) = level (Plan-F.Merge input.0 keys) (λ k. merging_laid k (layout input.0 (k + 1)) (input.1 (k + 1)))
step (Plan-F.Coalesce input) = level (Plan-F.Coalesce input.0) (λ k. coalesced_laid k (layout input.0 (k + 1)) (input.1 (k + 1)))
step (Plan-F.Repartition input to) = level (Plan-F.Repartition input.0 to) (λ k. exchanged_laid (partition_count to) k (layout input.0 (k + 1)) (input.1 (k + 1)))
step (Plan-F.UnionAll inputs) = level (Plan-F.UnionAll (map (λ (k : Known). k.0) inputs)) (all_laid inputs)
step (Plan-F.Limit input skip fetch) = level (Plan-F.Limit input.0 skip fetch) input.1

pub every_laid : (p : Plan) → Lays p
every_laid = ind-Plan Lays (λ x y is. subst (λ z. Lays (roll-Plan z)) is (step y))

-- ---- from stages to tasks

abbrev tasks_count : List TaskShape → ℕ → ℕ → ℕ
tasks_count [] g c = 0
tasks_count (t ∷ ts) g c = pair_count t.receives g c + tasks_count ts g c

tasks_count-append : (xs ys : List TaskShape) (g c : ℕ) → tasks_count (xs ++ ys) g c ≡ tasks_count xs g c + tasks_count ys g c
tasks_count-append [] ys g c = sym (zero-add _)
tasks_count-append (x ∷ xs) ys g c = omega (arith, tasks_count-append xs ys g c)

tasks_of_count : (s n : ℕ) (ps : List Part) (ts : List (List ℕ)) (g c : ℕ) → tasks_count (tasks_of s n ps ts) g c ≡ parts_count ps g c
tasks_of_count s n [] ts g c = refl
tasks_of_count s n (p ∷ ps) ts g c = ap (λ m. pair_count p.receives g c + m) (tasks_of_count s (n + length p.consumers) ps (tail_of ts) g c)

tasks_from_count : (s n : ℕ) (xs : List Stage) (g c : ℕ) → tasks_count (tasks_from s n xs) g c ≡ stages_count xs g c
tasks_from_count s n [] g c = refl
tasks_from_count s n (x ∷ xs) g c =
    let a = tasks_of_count s n x.parts x.targets g c in
    let b = tasks_from_count (s + 1) (n + length (spills_of x.parts)) xs g c in
    let d = tasks_count-append (tasks_of s n x.parts x.targets) (tasks_from (s + 1) (n + length (spills_of x.parts)) xs) g c in
    omega arith

-- what is expected at a group is its width
expected_below : (k : ℕ) (xs : List Stage) (g c : ℕ) → g < k → expected k xs g c ≡ 0
expected_below k [] g c h = refl
expected_below k (x ∷ xs) g c h = elim (eqb_tells k g) [
  | inl w ↦ absurd (omega arith)
  | inr w ↦ rw w.0 (zero-add _ ∙ expected_below (k + 1) xs g c (omega arith))
]

expected_at : (xs : List Stage) (k g c : ℕ) → expected k xs (k + g) c ≡ cond {A = ℕ} (ltb c (get_or (widths_of xs) g 0)) 1 0
expected_at [] k g c = grind (arith, nat_tests)
expected_at (x ∷ xs) k zero c =
    let e : eqb k (k + 0) ≡ true = eq-eqb k (k + 0) (omega arith) in
    let z : expected (k + 1) xs (k + 0) c ≡ 0 = expected_below (k + 1) xs (k + 0) c (omega arith) in
    rw (e, z) (add-zero _)
expected_at (x ∷ xs) k (suc g) c = later (eqb_tells k (k + suc g)) (expected_at xs (k + 1) g c)
  where
    later : ((eqb k (k + suc g) ≡ true) × (k ≡ k + suc g)) ⊎ ((eqb k (k + suc g) ≡ false) × (k ≢ k + suc g)) → expected (k + 1) xs (k + 1 + g) c ≡ cond {A = ℕ} (ltb c (get_or (widths_of xs) g 0)) 1 0 → expected k (x ∷ xs) (k + suc g) c ≡ cond {A = ℕ} (ltb c (get_or (widths_of xs) g 0)) 1 0
    later (inl w) h = absurd (omega arith)
    later (inr w) h =
        let e : k + suc g ≡ k + 1 + g = omega arith in
        rw (w.0, zero-add (expected (k + 1) xs (k + suc g) c), e) h

-- ---- one task for each channel

names_count : (xs : List (ℕ × ℕ)) (g c : ℕ) → names xs g c ≡ true → 0 < pair_count xs g c
names_count [] g c h = absurd (false≢true h)
names_count (x ∷ xs) g c h = go ((x.0 == g) && (x.1 == c)) (names_count xs g c) h
  where
    go : (b : Bool) → (names xs g c ≡ true → 0 < pair_count xs g c) → b || names xs g c ≡ true → 0 < cond {A = ℕ} b 1 0 + pair_count xs g c
    go true f h = omega arith
    go false f h = let e = f h in omega arith

count_names : (xs : List (ℕ × ℕ)) (g c : ℕ) → 0 < pair_count xs g c → names xs g c ≡ true
count_names [] g c h = absurd (omega arith)
count_names (x ∷ xs) g c h = go ((x.0 == g) && (x.1 == c)) (count_names xs g c) h
  where
    go : (b : Bool) → (0 < pair_count xs g c → names xs g c ≡ true) → 0 < cond {A = ℕ} b 1 0 + pair_count xs g c → b || names xs g c ≡ true
    go true f h = refl
    go false f h = f (omega arith)

abbrev receives_in : List TaskShape → ℕ → ℕ → ℕ → Bool
receives_in ts t g c = names (get_or ts t no_task).receives g c

some_in : (ts : List TaskShape) (t g c : ℕ) → receives_in ts t g c ≡ true → 0 < tasks_count ts g c
some_in [] t g c h = absurd (false≢true h)
some_in (x ∷ ts) zero g c h = let e = names_count x.receives g c h in omega arith
some_in (x ∷ ts) (suc t) g c h = let e = some_in ts t g c h in omega arith

one_in : (ts : List TaskShape) (t u g c : ℕ) → tasks_count ts g c ≤ 1 → receives_in ts t g c ≡ true → receives_in ts u g c ≡ true → t ≡ u
one_in [] t u g c m h i = absurd (false≢true h)
one_in (x ∷ ts) zero zero g c m h i = refl
one_in (x ∷ ts) zero (suc u) g c m h i = let e = names_count x.receives g c h in let f = some_in ts u g c i in absurd (omega arith)
one_in (x ∷ ts) (suc t) zero g c m h i = let e = names_count x.receives g c i in let f = some_in ts t g c h in absurd (omega arith)
one_in (x ∷ ts) (suc t) (suc u) g c m h i = ap suc (one_in ts t u g c (omega arith) h i)

found_in : (ts : List TaskShape) (g c : ℕ) → 0 < tasks_count ts g c → (t : ℕ) × (t < length ts) × (receives_in ts t g c ≡ true)
found_in [] g c h = absurd (omega arith)
found_in (x ∷ ts) g c h = go (cases_lt 0 (pair_count x.receives g c)) (found_in ts g c)
  where
    go : (0 < pair_count x.receives g c) ⊎ (pair_count x.receives g c ≤ 0) → (0 < tasks_count ts g c → (t : ℕ) × (t < length ts) × (receives_in ts t g c ≡ true)) → (t : ℕ) × (t < length (x ∷ ts)) × (receives_in (x ∷ ts) t g c ≡ true)
    go (inl w) f = (0, omega arith, count_names x.receives g c w)
    go (inr w) f = let e = f (omega arith) in (suc e.0, (let l : e.0 < length ts = e.1 in omega arith), e.2)

-- ---- what holds of each task

pub record Fine (ws : List ℕ) (t : TaskShape) : Type 0 where
  pub at_group : (g : ℕ) → t.sends ≡ Some g → t.stage ≡ g
  pub aimed : (g c : ℕ) → t.sends ≡ Some g → has t.targets c ≡ true → c < get_or ws g 0
  pub once : (c : ℕ) → count c t.targets ≤ 1
  pub later : (g c : ℕ) → names t.receives g c ≡ true → t.stage < g

abbrev AllFine : List ℕ → List TaskShape → Type 0
AllFine ws [] = Unit {0}
AllFine ws (t ∷ ts) = Fine ws t × AllFine ws ts

AllFine-append : (ws : List ℕ) (xs ys : List TaskShape) → AllFine ws xs → AllFine ws ys → AllFine ws (xs ++ ys)
AllFine-append ws [] ys h i = i
AllFine-append ws (x ∷ xs) ys h i = (h.0, AllFine-append ws xs ys h.1 i)

no_task_fine : (ws : List ℕ) → Fine ws no_task
no_task_fine ws = record {
  at_group = λ g e. cc;
  aimed = λ g c e h. absurd (false≢true h);
  once = λ c. omega arith;
  later = λ g c h. absurd (false≢true h);
}

fine_at : (ws : List ℕ) (ts : List TaskShape) (t : ℕ) → AllFine ws ts → Fine ws (get_or ts t no_task)
fine_at ws [] t h = no_task_fine ws
fine_at ws (x ∷ ts) zero h = h.0
fine_at ws (x ∷ ts) (suc t) h = fine_at ws ts t h.1

group_is : (s g : ℕ) → group_of s ≡ Some g → s ≡ g
group_is zero g e = cc
group_is (suc s) g e = cc

nothing_aims : (w : ℕ) → Aims w []
nothing_aims w = record { once = λ c. omega arith; below = λ c h. absurd (false≢true h) }

head_aims : (w : ℕ) (ts : List (List ℕ)) → AllAim w ts → Aims w (head_or ts)
head_aims w [] h = nothing_aims w
head_aims w (t ∷ ts) h = h.0

tail_aims : (w : ℕ) (ts : List (List ℕ)) → AllAim w ts → AllAim w (tail_of ts)
tail_aims w [] h = tt
tail_aims w (t ∷ ts) h = h.1

first_part : (k : ℕ) (p : Part) (ps : List Part) → From k (p ∷ ps) → (g c : ℕ) → 0 < pair_count p.receives g c → k ≤ g
first_part k p ps h g c e = h g c (omega arith)

other_parts : (k : ℕ) (p : Part) (ps : List Part) → From k (p ∷ ps) → From k ps
other_parts k p ps h g c e = h g c (omega arith)

stage_fine : (ws : List ℕ) (s n w : ℕ) (ps : List Part) (ts : List (List ℕ)) → w ≡ get_or ws s 0 → From (s + 1) ps → AllAim w ts → AllFine ws (tasks_of s n ps ts)
stage_fine ws s n w [] ts e f a = tt
stage_fine ws s n w (p ∷ ps) ts e f a = (
  record {
    at_group = λ g q. group_is s g q;
    aimed = λ g c q h. (let m = group_is s g q in let b = (head_aims w ts a).below c h in subst (λ (x : ℕ). c < get_or ws x 0) m (subst (λ (x : ℕ). c < x) e b));
    once = (head_aims w ts a).once;
    later = λ g c h. (let b = first_part (s + 1) p ps f g c (names_count p.receives g c h) in omega arith);
  },
  stage_fine ws s (n + length p.consumers) w ps (tail_of ts) e (other_parts (s + 1) p ps f) (tail_aims w ts a),
)

stages_fine : (ws : List ℕ) (s n : ℕ) (xs : List Stage) → ((j : ℕ) → get_or (widths_of xs) j 0 ≡ get_or ws (s + j) 0) → Grow s xs → Sent xs → AllFine ws (tasks_from s n xs)
stages_fine ws s n [] e g a = tt
stages_fine ws s n (x ∷ xs) e g a =
    AllFine-append ws (tasks_of s n x.parts x.targets) (tasks_from (s + 1) (n + length (spills_of x.parts)) xs)
    (stage_fine ws s n x.width x.parts x.targets (e 0 ∙ ap (λ j. get_or ws j 0) (add-zero s)) g.0 a.0)
    (stages_fine ws (s + 1) (n + length (spills_of x.parts)) xs (λ j. e (suc j) ∙ ap (λ i. get_or ws i 0) (moved j)) g.1 a.1)
  where
    moved : (j : ℕ) → s + suc j ≡ s + 1 + j
    moved j = omega arith

-- ---- together

module _ (xs : List Stage) (total : (g c : ℕ) → stages_count xs g c ≡ expected 0 xs g c) (grow : Grow 0 xs) (sent : Sent xs) where
  counted : (g c : ℕ) → tasks_count (tasks_from 0 0 xs) g c ≡ cond {A = ℕ} (ltb c (get_or (widths_of xs) g 0)) 1 0
  counted g c = tasks_from_count 0 0 xs g c ∙ total g c ∙ ap (λ h. expected 0 xs h c) (sym (zero-add g)) ∙ expected_at xs 0 g c

  fine : (t : ℕ) → Fine (widths_of xs) (get_or (tasks_from 0 0 xs) t no_task)
  fine t = fine_at (widths_of xs) (tasks_from 0 0 xs) t (stages_fine (widths_of xs) 0 0 xs (λ j. ap (λ i. get_or (widths_of xs) i 0) (sym (zero-add j))) grow sent)

  sender : (t g : ℕ) → is_group (get_or (tasks_from 0 0 xs) t no_task).sends g ≡ true → (get_or (tasks_from 0 0 xs) t no_task).sends ≡ Some g
  sender t g h = go (get_or (tasks_from 0 0 xs) t no_task).sends h
    where
      go : (o : Option ℕ) → is_group o g ≡ true → o ≡ Some g
      go None h = absurd (false≢true h)
      go (Some k) h = ap (λ x. Some x) (eqb-true k g h)

  and_parts : (a b : Bool) → a && b ≡ true → (a ≡ true) × (b ≡ true)
  and_parts true b h = (refl, h)
  and_parts false b h = absurd (false≢true h)

  is_shape_from : IsShape (shape_from xs)
  is_shape_from = record {
    inside = λ t g c h. (let a = some_in (tasks_from 0 0 xs) t g c h in let b = counted g c in grind (arith, nat_tests));
    targets_inside = λ t g c h. (let a = and_parts (is_group (get_or (tasks_from 0 0 xs) t no_task).sends g) (has (get_or (tasks_from 0 0 xs) t no_task).targets c) h in (fine t).aimed g c (sender t g a.0) a.1);
    one_receiver = λ t u g c h i. one_in (tasks_from 0 0 xs) t u g c (let b = counted g c in grind (arith, nat_tests)) h i;
    has_receiver = λ g c h. found_in (tasks_from 0 0 xs) g c (let b = counted g c in grind (arith, nat_tests));
    once = λ t c. (fine t).once c;
    grows = λ t u g c h e. (let a = (fine t).later g c h in let b = (fine u).at_group g e in omega arith);
  }

pub is_shape : (p : Plan) → IsShape (shape p)
unfolding shape
is_shape p =
    let l = every_laid p 1 in
    is_shape_from (stages_of (layout p 1))
    (λ g c. l.total g c ∙ rooted g c)
    (l.start, l.grow)
    (tt, l.sent)
  where
    rooted : (g c : ℕ) → expected 1 (layout p 1).stages g c ≡ expected 0 (stages_of (layout p 1)) g c
    rooted g c = grind (arith, nat_tests)
