-- The tasks of a stage by their numbers, and who sends to its group.
use Rattle.std.proofs.Common.{ℕ, zero, suc, ◌+◌, ◌-◌, ◌<◌, ◌≤◌, ◌≡◌, ◌⊎◌, inl, inr, refl, sym, ap, ◌∙◌, subst, cond, List, [], ◌∷◌, ◌++◌, length, get_or, Bool, true, false, Option, arith, zero-add, add-zero}
use Rattle.std.proofs.lemmas.List.{length-append, get_or_append_left, get_or-append-add}
use Rattle.std.proofs.lemmas.Bool.{false≢true}
use Rattle.std.proofs.lemmas.Bool.Decides.{nat_tests, eqb_tells}
use Rattle.physical_plan.specs.declared.plan.Plan.{Plan}
use Rattle.plan_shape.specs.Layout.{Part, Stage, layout, tasks_of, tasks_from, spills_of, spills_from, stages_of, shape, group_of, tail_of, widths_of}
use Rattle.task_shape.specs.Shape.{TaskShape, task_at, has, no_task, is_group, sends_at, width}
use Rattle.physical_plan.proofs.Everywhere.{and_parts}
use Rattle.tree_laws.specs.Trees.{Nothing}
use Rattle.tree_laws.specs.Tasks.{Split}
use Rattle.tree_laws.specs.Runs.{no_task as nobody}
use Rattle.content_laws.specs.Bags.{sum_below}
use Rattle.plan_task_laws.specs.Trees.{Doing, Seed, leaf, stages_in}
use Rattle.plan_task_laws.specs.Tops.{Way, ToOwn, Top, all_tops, targets_by, width_by}
use Rattle.plan_task_laws.specs.Starts.{split_by, starting, tasks_by, consumers_in, seeds_of, tasks_in}
use Rattle.plan_task_laws.specs.Reading.{AreOperators}
use Rattle.plan_task_laws.specs.Placed.{tasks_before, consumers_over, consumers_front, consumers_before, IsPlaced}
use Rattle.plan_task_laws.proofs.Parts.{same_length}
use Rattle.plan_task_laws.proofs.Aims.{AllAim, written_aims}
use Rattle.plan_task_laws.proofs.Begun.{same_spills}
use Rattle.plan_task_laws.proofs.Grown.{AreTops, grows}

-- ------------------------------------------------------------ the start's tasks

by_length : (split : ℕ → Option Split) (i c : ℕ) (ss : List Seed) → length (tasks_by split i c ss) ≡ length ss
by_length split i c [] = refl
by_length split i c (s ∷ ss) = ap suc (by_length split (i + 1) (c + length s.consumers) ss)

by_at : (split : ℕ → Option Split) (j c : ℕ) (ss : List Seed) (i : ℕ) → i < length ss
    → get_or (tasks_by split j c ss) i nobody ≡ starting (split (j + i)) ((get_or ss i (leaf Nothing)).tree (c + length (consumers_front i ss)))
by_at split j c [] i l = absurd (omega arith)
by_at split j c (s ∷ ss) zero l = ap (λ (n : ℕ). starting (split n) (s.tree c)) (sym (add-zero j)) ∙ ap (λ (n : ℕ). starting (split (j + 0)) (s.tree n)) (sym (add-zero c))
by_at split j c (s ∷ ss) (suc i) l =
    let r = by_at split (j + 1) (c + length s.consumers) ss i (omega arith) in
    let e : j + 1 + i ≡ j + suc i = omega arith in
    let k : length (s.consumers ++ consumers_front i ss) ≡ length s.consumers + length (consumers_front i ss) = length-append s.consumers (consumers_front i ss) in
    let d : c + length s.consumers + length (consumers_front i ss) ≡ c + length (s.consumers ++ consumers_front i ss) = omega arith in
    r ∙ ap (λ (n : ℕ). starting (split n) ((get_or ss i (leaf Nothing)).tree (c + length s.consumers + length (consumers_front i ss)))) e
    ∙ ap (λ (n : ℕ). starting (split (j + suc i)) ((get_or ss i (leaf Nothing)).tree n)) d

in_at : (f : Doing) (c : ℕ) (before after : List Top) (t : Top) (i : ℕ) → i < length (seeds_of f t)
    → get_or (tasks_in f c (before ++ t ∷ after)) (tasks_before f before + i) nobody ≡ starting (split_by f t.way i) ((get_or (seeds_of f t) i (leaf Nothing)).tree (c + consumers_before f before t i))
in_at f c [] after t i l =
    let xs = tasks_by (split_by f t.way) 0 c (seeds_of f t) in
    let ys = tasks_in f (c + length (consumers_in (seeds_of f t))) after in
    let r = by_at (split_by f t.way) 0 c (seeds_of f t) i l in
    let n = by_length (split_by f t.way) 0 c (seeds_of f t) in
    let d : c + length (consumers_front i (seeds_of f t)) ≡ c + (0 + length (consumers_front i (seeds_of f t))) = omega arith in
    ap (λ (n : ℕ). get_or (xs ++ ys) n nobody) (zero-add i) ∙ get_or_append_left xs ys nobody i (omega arith) ∙ r
    ∙ ap (λ (n : ℕ). starting (split_by f t.way n) ((get_or (seeds_of f t) i (leaf Nothing)).tree (c + length (consumers_front i (seeds_of f t))))) (zero-add i)
    ∙ ap (λ (n : ℕ). starting (split_by f t.way i) ((get_or (seeds_of f t) i (leaf Nothing)).tree n)) d
in_at f c (b ∷ before) after t i l =
    let xs = tasks_by (split_by f b.way) 0 c (seeds_of f b) in
    let ys = tasks_in f (c + length (consumers_in (seeds_of f b))) (before ++ t ∷ after) in
    let r = in_at f (c + length (consumers_in (seeds_of f b))) before after t i l in
    let n : length xs ≡ length (seeds_of f b) = by_length (split_by f b.way) 0 c (seeds_of f b) in
    let e : length (seeds_of f b) + tasks_before f before + i ≡ length xs + (tasks_before f before + i) = omega arith in
    let k : length (consumers_in (seeds_of f b) ++ consumers_over f before) ≡ length (consumers_in (seeds_of f b)) + length (consumers_over f before) = length-append (consumers_in (seeds_of f b)) (consumers_over f before) in
    let d : c + length (consumers_in (seeds_of f b)) + consumers_before f before t i ≡ c + consumers_before f (b ∷ before) t i = omega arith in
    ap (λ (n : ℕ). get_or (xs ++ ys) n nobody) e ∙ get_or-append-add xs ys (tasks_before f before + i) nobody ∙ r
    ∙ ap (λ (n : ℕ). starting (split_by f t.way i) ((get_or (seeds_of f t) i (leaf Nothing)).tree n)) d

-- ------------------------------------------------------------ which consumers can spill

flag_by : (ss : List Seed) (i j : ℕ) → j < length (get_or ss i (leaf Nothing)).consumers → get_or (consumers_in ss) (length (consumers_front i ss) + j) false ≡ get_or (get_or ss i (leaf Nothing)).consumers j false
flag_by [] i j l = absurd (omega arith)
flag_by (s ∷ ss) zero j l = ap (λ (n : ℕ). get_or (s.consumers ++ consumers_in ss) n false) (zero-add j) ∙ get_or_append_left s.consumers (consumers_in ss) false j l
flag_by (s ∷ ss) (suc i) j l =
    let k : length (s.consumers ++ consumers_front i ss) ≡ length s.consumers + length (consumers_front i ss) = length-append s.consumers (consumers_front i ss) in
    let e : length (s.consumers ++ consumers_front i ss) + j ≡ length s.consumers + (length (consumers_front i ss) + j) = omega arith in
    ap (λ (n : ℕ). get_or (s.consumers ++ consumers_in ss) n false) e ∙ get_or-append-add s.consumers (consumers_in ss) (length (consumers_front i ss) + j) false ∙ flag_by ss i j l

-- a partition's consumers are among those of its stage
front_within : (ss : List Seed) (i j : ℕ) → j < length (get_or ss i (leaf Nothing)).consumers → length (consumers_front i ss) + j < length (consumers_in ss)
front_within [] i j l = absurd (omega arith)
front_within (s ∷ ss) zero j l = let k = length-append s.consumers (consumers_in ss) in omega arith
front_within (s ∷ ss) (suc i) j l =
    let k = length-append s.consumers (consumers_in ss) in
    let m = length-append s.consumers (consumers_front i ss) in
    let r = front_within ss i j l in
    omega arith

flag_in : (f : Doing) (before after : List Top) (t : Top) (i j : ℕ) → j < length (get_or (seeds_of f t) i (leaf Nothing)).consumers
    → get_or (consumers_over f (before ++ t ∷ after)) (consumers_before f before t i + j) false ≡ get_or (get_or (seeds_of f t) i (leaf Nothing)).consumers j false
flag_in f [] after t i j l =
    let xs = consumers_in (seeds_of f t) in
    let ys = consumers_over f after in
    let n = length (consumers_front i (seeds_of f t)) in
    let w = front_within (seeds_of f t) i j l in
    let e : 0 + n + j ≡ n + j = omega arith in
    ap (λ (m : ℕ). get_or (xs ++ ys) m false) e ∙ get_or_append_left xs ys false (n + j) w ∙ flag_by (seeds_of f t) i j l
flag_in f (b ∷ before) after t i j l =
    let xs = consumers_in (seeds_of f b) in
    let ys = consumers_over f (before ++ t ∷ after) in
    let k = length-append xs (consumers_over f before) in
    let e : consumers_before f (b ∷ before) t i + j ≡ length xs + (consumers_before f before t i + j) = omega arith in
    ap (λ (m : ℕ). get_or (xs ++ ys) m false) e ∙ get_or-append-add xs ys (consumers_before f before t i + j) false ∙ flag_in f before after t i j l

spills_over : (f : Doing) (k : ℕ) (xs : List Stage) (ts : List Top) → AreTops f k xs ts → spills_from xs ≡ consumers_over f ts
spills_over f k [] [] h = refl
spills_over f k [] (t ∷ ts) h = absurd h
spills_over f k (x ∷ xs) [] h = absurd h
spills_over f k (x ∷ xs) (t ∷ ts) h =
    ap (λ bs. bs ++ spills_from xs) (sym (same_spills (t.stage + 1) (t.stage + 1 + stages_in t.plan) x.parts (seeds_of f t) h.0.parts))
    ∙ ap (λ bs. consumers_in (seeds_of f t) ++ bs) (spills_over f (k + 1) xs ts h.1)

-- ------------------------------------------------------------ the shape's tasks

pub of_length : (s c : ℕ) (ps : List Part) (ts : List (List ℕ)) → length (tasks_of s c ps ts) ≡ length ps
of_length s c [] ts = refl
of_length s c (p ∷ ps) ts = ap suc (of_length s (c + length p.consumers) ps (tail_of ts))

abbrev Shaped : ℕ → Way → ℕ → TaskShape → Type 0
Shaped s w i t = (t.stage ≡ s) × (t.sends ≡ group_of s) × (t.targets ≡ targets_by w i)

of_at : (s c j : ℕ) (w : Way) (ps : List Part) (ts : List (List ℕ)) (i : ℕ) → AllAim w j ps ts → i < length ps → Shaped s w (j + i) (get_or (tasks_of s c ps ts) i no_task)
of_at s c j w [] ts i a l = absurd (omega arith)
of_at s c j w (p ∷ ps) ts zero a l = (refl, refl, a.0 ∙ ap (λ (n : ℕ). targets_by w n) (sym (add-zero j)))
of_at s c j w (p ∷ ps) ts (suc i) a l =
    let r = of_at s (c + length p.consumers) (j + 1) w ps (tail_of ts) i a.1 (omega arith) in
    let e : j + 1 + i ≡ j + suc i = omega arith in
    (r.0, r.1, r.2 ∙ ap (λ (n : ℕ). targets_by w n) e)

-- what is known of a stage among others
pub record IsAmong (f : Doing) (s c : ℕ) (xs : List Stage) (before : List Top) (t : Top) : Type 0 where
  pub stage : t.stage ≡ s + length before
  pub shaped : (i : ℕ) → i < length (seeds_of f t) → Shaped t.stage t.way i (get_or (tasks_from s c xs) (tasks_before f before + i) no_task)
  pub width : get_or (widths_of xs) (length before) 0 ≡ width_by t.way (length (seeds_of f t))

among : (f : Doing) (s c : ℕ) (xs : List Stage) (before after : List Top) (t : Top) → AreTops f s xs (before ++ t ∷ after) → IsAmong f s c xs before t
among f s c [] [] after t h = absurd h
among f s c (x ∷ xs) [] after t h =
    let n = same_length (t.stage + 1) (t.stage + 1 + stages_in t.plan) x.parts (seeds_of f t) h.0.parts in
    let ts = tasks_of s c x.parts x.targets in
    let us = tasks_from (s + 1) (c + length (spills_of x.parts)) xs in
    let m = of_length s c x.parts x.targets in
    record {
      stage = h.0.stage ∙ sym (add-zero s);
      shaped = λ i l. (
          let r = of_at s c 0 t.way x.parts x.targets i h.0.aims (omega arith) in
          let e : get_or (ts ++ us) (0 + i) no_task ≡ get_or ts i no_task = ap (λ (n : ℕ). get_or (ts ++ us) n no_task) (zero-add i) ∙ get_or_append_left ts us no_task i (omega arith) in
          let q : Shaped s t.way i (get_or ts i no_task) = subst (λ (n : ℕ). Shaped s t.way n (get_or ts i no_task)) (zero-add i) r in
          subst (λ (n : ℕ). Shaped n t.way i (get_or (ts ++ us) (0 + i) no_task)) (sym h.0.stage) (subst (λ y. Shaped s t.way i y) (sym e) q));
      width = h.0.width ∙ ap (λ (n : ℕ). width_by t.way n) (sym n);
    }
among f s c [] (b ∷ before) after t h = absurd h
among f s c (x ∷ xs) (b ∷ before) after t h =
    let n : length (seeds_of f b) ≡ length x.parts = same_length (b.stage + 1) (b.stage + 1 + stages_in b.plan) x.parts (seeds_of f b) h.0.parts in
    let ts = tasks_of s c x.parts x.targets in
    let d = c + length (spills_of x.parts) in
    let us = tasks_from (s + 1) d xs in
    let m : length ts ≡ length x.parts = of_length s c x.parts x.targets in
    let r = among f (s + 1) d xs before after t h.1 in
    let k : t.stage ≡ s + 1 + length before = r.stage in
    record {
      stage = omega arith;
      shaped = λ i l. (
          let q : length (seeds_of f b) + tasks_before f before + i ≡ length ts + (tasks_before f before + i) = omega arith in
          let e : get_or (ts ++ us) (length (seeds_of f b) + tasks_before f before + i) no_task ≡ get_or us (tasks_before f before + i) no_task = ap (λ (n : ℕ). get_or (ts ++ us) n no_task) q ∙ get_or-append-add ts us (tasks_before f before + i) no_task in
          subst (λ y. Shaped t.stage t.way i y) (sym e) (r.shaped i l));
      width = r.width;
    }

pub all_are : (f : Doing) → AreOperators f → (p : Plan) → AreTops f 0 (stages_of (layout p 1)) (all_tops p)
all_are f are p =
    let g = grows f are p in
    let n : 0 + 1 ≡ 1 = refl in
    (record { stage = refl; parts = g.parts 1 0; aims = written_aims 0 (layout p 1).parts; width = refl }, g.tops 1 0)

pub spillable : (f : Doing) → AreOperators f → (p : Plan) → (shape p).spillable ≡ consumers_over f (all_tops p)
unfolding shape
spillable f are p = spills_over f 0 (stages_of (layout p 1)) (all_tops p) (all_are f are p)

pub placed : (f : Doing) → AreOperators f → (p : Plan) (before after : List Top) (t : Top) → all_tops p ≡ before ++ t ∷ after → (i : ℕ) → i < length (seeds_of f t) → IsPlaced f p before t i
unfolding shape
placed f are p before after t e i l =
    let a = among f 0 0 (stages_of (layout p 1)) before after t (subst (λ ts. AreTops f 0 (stages_of (layout p 1)) ts) e (all_are f are p)) in
    let s = a.shaped i l in
    let r = in_at f 0 before after t i l in
    record {
      task = ap (λ ts. get_or (tasks_in f 0 ts) (tasks_before f before + i) nobody) e ∙ r
          ∙ ap (λ (n : ℕ). starting (split_by f t.way i) ((get_or (seeds_of f t) i (leaf Nothing)).tree n)) (zero-add (consumers_before f before t i));
      spills = λ j k. ap (λ bs. get_or bs (consumers_before f before t i + j) false) (spillable f are p)
          ∙ ap (λ ts. get_or (consumers_over f ts) (consumers_before f before t i + j) false) e ∙ flag_in f before after t i j k;
      stage = s.0;
      sends = s.1;
      targets = s.2;
    }

-- ------------------------------------------------------------ who sends to a group

pub group_is : (s g : ℕ) → is_group (group_of s) g ≡ true → s ≡ g
group_is zero g h = absurd (false≢true h)
group_is (suc s) g h = elim (eqb_tells (suc s) g) [
  | inl u ↦ u.1
  | inr u ↦ absurd (false≢true (sym u.0 ∙ h))
]

pub is_group_of : (g : ℕ) → 0 < g → is_group (group_of g) g ≡ true
is_group_of zero h = absurd (omega arith)
is_group_of (suc g) h = grind (arith, nat_tests)

-- past the tasks nothing is sent; among a stage's tasks only to its group
of_sends : (s c : ℕ) (ps : List Part) (ts : List (List ℕ)) (u g : ℕ) → is_group (get_or (tasks_of s c ps ts) u no_task).sends g ≡ true → (u < length ps) × (s ≡ g)
of_sends s c [] ts u g h = absurd (false≢true h)
of_sends s c (p ∷ ps) ts zero g h = (omega arith, group_is s g h)
of_sends s c (p ∷ ps) ts (suc u) g h = (let r = of_sends s (c + length p.consumers) ps (tail_of ts) u g h in let l : u < length ps = r.0 in (omega arith, r.1))

-- a place in two lists
pub place_in : {A : Type 0} (xs ys : List A) (d : A) (u : ℕ) → ((u < length xs) × (get_or (xs ++ ys) u d ≡ get_or xs u d)) ⊎ ((v : ℕ) × (u ≡ length xs + v) × (get_or (xs ++ ys) u d ≡ get_or ys v d))
place_in [] ys d u = inr (u, sym (zero-add u), refl)
place_in (x ∷ xs) ys d zero = inl (omega arith, refl)
place_in (x ∷ xs) ys d (suc u) = later (place_in xs ys d u)
  where
    later : ((u < length xs) × (get_or (xs ++ ys) u d ≡ get_or xs u d)) ⊎ ((v : ℕ) × (u ≡ length xs + v) × (get_or (xs ++ ys) u d ≡ get_or ys v d))
        → ((suc u < length (x ∷ xs)) × (get_or (x ∷ xs ++ ys) (suc u) d ≡ get_or (x ∷ xs) (suc u) d)) ⊎ ((v : ℕ) × (suc u ≡ length (x ∷ xs) + v) × (get_or (x ∷ xs ++ ys) (suc u) d ≡ get_or ys v d))
    later (inl w) = inl (let l : u < length xs = w.0 in omega arith, w.1)
    later (inr w) = inr (w.0, let l : u ≡ length xs + w.0 = w.1 in omega arith, w.2)

from_later : (s c : ℕ) (xs : List Stage) (u g : ℕ) → is_group (get_or (tasks_from s c xs) u no_task).sends g ≡ true → s ≤ g
from_later s c [] u g h = absurd (false≢true h)
from_later s c (x ∷ xs) u g h =
    let ts = tasks_of s c x.parts x.targets in
    let d = c + length (spills_of x.parts) in
    let us = tasks_from (s + 1) d xs in
    elim (place_in ts us no_task u) [
      | inl w ↦ (let r = of_sends s c x.parts x.targets u g (ap (λ (t : TaskShape). is_group t.sends g) (sym w.1) ∙ h) in let e : s ≡ g = r.1 in omega arith)
      | inr w ↦ (let r = from_later (s + 1) d xs w.0 g (ap (λ (t : TaskShape). is_group t.sends g) (sym w.2) ∙ h) in omega arith)
    ]

sender_in : (f : Doing) (s c : ℕ) (xs : List Stage) (before after : List Top) (t : Top) → AreTops f s xs (before ++ t ∷ after) → (u : ℕ)
    → is_group (get_or (tasks_from s c xs) u no_task).sends (s + length before) ≡ true → (i : ℕ) × (i < length (seeds_of f t)) × (u ≡ tasks_before f before + i)
sender_in f s c [] [] after t h u e = absurd h
sender_in f s c (x ∷ xs) [] after t h u e =
    let n : length (seeds_of f t) ≡ length x.parts = same_length (t.stage + 1) (t.stage + 1 + stages_in t.plan) x.parts (seeds_of f t) h.0.parts in
    let ts = tasks_of s c x.parts x.targets in
    let d = c + length (spills_of x.parts) in
    let us = tasks_from (s + 1) d xs in
    elim (place_in ts us no_task u) [
      | inl w ↦ (let r = of_sends s c x.parts x.targets u (s + 0) (ap (λ (t : TaskShape). is_group t.sends (s + 0)) (sym w.1) ∙ e) in let l : u < length x.parts = r.0 in (u, omega arith, sym (zero-add u)))
      | inr w ↦ absurd (let r = from_later (s + 1) d xs w.0 (s + 0) (ap (λ (t : TaskShape). is_group t.sends (s + 0)) (sym w.2) ∙ e) in omega arith)
    ]
sender_in f s c [] (b ∷ before) after t h u e = absurd h
sender_in f s c (x ∷ xs) (b ∷ before) after t h u e =
    let n : length (seeds_of f b) ≡ length x.parts = same_length (b.stage + 1) (b.stage + 1 + stages_in b.plan) x.parts (seeds_of f b) h.0.parts in
    let ts = tasks_of s c x.parts x.targets in
    let m : length ts ≡ length x.parts = of_length s c x.parts x.targets in
    let d = c + length (spills_of x.parts) in
    let us = tasks_from (s + 1) d xs in
    let g = s + length (b ∷ before) in
    let q : s + length (b ∷ before) ≡ s + 1 + length before = omega arith in
    elim (place_in ts us no_task u) [
      | inl w ↦ absurd (let r = of_sends s c x.parts x.targets u g (ap (λ (t : TaskShape). is_group t.sends g) (sym w.1) ∙ e) in let k : s ≡ g = r.1 in omega arith)
      | inr w ↦ (
          let r = sender_in f (s + 1) d xs before after t h.1 w.0 (ap (λ (k : ℕ). is_group (get_or us w.0 no_task).sends k) (sym q) ∙ ap (λ (t : TaskShape). is_group t.sends g) (sym w.2) ∙ e) in
          let a : u ≡ length ts + w.0 = w.1 in
          let b2 : w.0 ≡ tasks_before f before + r.0 = r.2 in
          (r.0, r.1, omega arith))
    ]

pub sender_of : (f : Doing) → AreOperators f → (p : Plan) (before after : List Top) (t : Top) → all_tops p ≡ before ++ t ∷ after → (u : ℕ)
    → is_group (task_at (shape p) u).sends t.stage ≡ true → (i : ℕ) × (i < length (seeds_of f t)) × (u ≡ tasks_before f before + i)
unfolding shape
sender_of f are p before after t e u h =
    let all = subst (λ ts. AreTops f 0 (stages_of (layout p 1)) ts) e (all_are f are p) in
    let a = among f 0 0 (stages_of (layout p 1)) before after t all in
    sender_in f 0 0 (stages_of (layout p 1)) before after t all u (ap (λ (k : ℕ). is_group (task_at (shape p) u).sends k) (sym a.stage) ∙ h)

pub stage_is : (f : Doing) → AreOperators f → (p : Plan) (before after : List Top) (t : Top) → all_tops p ≡ before ++ t ∷ after → (t.stage ≡ length before) × (width (shape p) t.stage ≡ width_by t.way (length (seeds_of f t)))
unfolding shape
stage_is f are p before after t e =
    let all = subst (λ ts. AreTops f 0 (stages_of (layout p 1)) ts) e (all_are f are p) in
    let a = among f 0 0 (stages_of (layout p 1)) before after t all in
    let q = a.stage ∙ zero-add (length before) in
    (q, ap (λ (k : ℕ). get_or (widths_of (stages_of (layout p 1))) k 0) q ∙ a.width)

-- ------------------------------------------------------------ sums

sum_split : (a b : ℕ) (f : ℕ → ℕ) → sum_below (a + b) f ≡ sum_below a f + sum_below b (λ i. f (a + i))
sum_split a zero f = rw (add-zero a) (sym (add-zero _))
sum_split a (suc b) f =
    let e : a + suc b ≡ suc (a + b) = omega arith in
    rw e (omega (arith, sum_split a b f))

sum_zero : (n : ℕ) (f : ℕ → ℕ) → ((i : ℕ) → i < n → f i ≡ 0) → sum_below n f ≡ 0
sum_zero zero f h = refl
sum_zero (suc n) f h = let a = sum_zero n f (λ i l. h i (omega arith)) in let b = h n (omega arith) in omega arith

sum_same : (n : ℕ) (f g : ℕ → ℕ) → ((i : ℕ) → i < n → f i ≡ g i) → sum_below n f ≡ sum_below n g
sum_same zero f g h = refl
sum_same (suc n) f g h = let a = sum_same n f g (λ i l. h i (omega arith)) in let b = h n (omega arith) in omega arith

cond_no : (b : Bool) (n : ℕ) → (b ≡ true → ⊥) → cond b n 0 ≡ 0
cond_no true n h = absurd (h refl)
cond_no false n h = refl

cond_yes : (b : Bool) (n : ℕ) → b ≡ true → cond b n 0 ≡ n
cond_yes true n h = refl
cond_yes false n h = absurd (false≢true h)

-- a sum over the numbers that pass, which are n from a on
sum_some : (total a n : ℕ) (passes : ℕ → Bool) (h : ℕ → ℕ) → a + n ≤ total → ((i : ℕ) → i < n → passes (a + i) ≡ true) → ((u : ℕ) → passes u ≡ true → (i : ℕ) × (i < n) × (u ≡ a + i))
    → sum_below total (λ u. cond (passes u) (h u) 0) ≡ sum_below n (λ i. h (a + i))
sum_some total a n passes h l are only =
    let f : ℕ → ℕ = λ u. cond (passes u) (h u) 0 in
    let r = total - (a + n) in
    let e : total ≡ a + (n + r) = omega arith in
    let s1 = sum_split a (n + r) f in
    let s2 = sum_split n r (λ i. f (a + i)) in
    let z1 : sum_below a f ≡ 0 = sum_zero a f (λ i k. cond_no (passes i) (h i) (λ q. let o = only i q in let w : i ≡ a + o.0 = o.2 in omega arith)) in
    let z2 : sum_below r (λ i. f (a + (n + i))) ≡ 0 = sum_zero r (λ i. f (a + (n + i))) (λ i k. cond_no (passes (a + (n + i))) (h (a + (n + i))) (λ q. let o = only (a + (n + i)) q in let v : o.0 < n = o.1 in let w : a + (n + i) ≡ a + o.0 = o.2 in omega arith)) in
    let m : sum_below n (λ i. f (a + i)) ≡ sum_below n (λ i. h (a + i)) = sum_same n (λ i. f (a + i)) (λ i. h (a + i)) (λ i k. cond_yes (passes (a + i)) (h (a + i)) (are i k)) in
    ap (λ (x : ℕ). sum_below x f) e ∙ s1 ∙ (omega arith)

pub past_end : (ts : List TaskShape) (u g : ℕ) → is_group (get_or ts u no_task).sends g ≡ true → u < length ts
past_end [] u g h = absurd (false≢true h)
past_end (t ∷ ts) zero g h = omega arith
past_end (t ∷ ts) (suc u) g h = let r = past_end ts u g h in omega arith

sum_over : (f : Doing) (ts : List TaskShape) (g a n : ℕ) (h : ℕ → ℕ) → ((i : ℕ) → i < n → is_group (get_or ts (a + i) no_task).sends g ≡ true) → ((u : ℕ) → is_group (get_or ts u no_task).sends g ≡ true → (i : ℕ) × (i < n) × (u ≡ a + i))
    → sum_below (length ts) (λ u. cond (is_group (get_or ts u no_task).sends g) (h u) 0) ≡ sum_below n (λ i. h (a + i))
sum_over f ts g a zero h are only = sum_zero (length ts) (λ u. cond (is_group (get_or ts u no_task).sends g) (h u) 0) (λ u l. cond_no (is_group (get_or ts u no_task).sends g) (h u) (λ q. let o = only u q in let v : o.0 < 0 = o.1 in omega arith))
sum_over f ts g a (suc n) h are only = sum_some (length ts) a (suc n) (λ u. is_group (get_or ts u no_task).sends g) h (let r = past_end ts (a + n) g (are n (omega arith)) in omega arith) are only

pub feeds : (f : Doing) → AreOperators f → (p : Plan) (before after : List Top) (t : Top) → all_tops p ≡ before ++ t ∷ after → 0 < t.stage → (h : ℕ → ℕ)
    → sum_below (length (shape p).tasks) (λ u. cond (is_group (task_at (shape p) u).sends t.stage) (h u) 0) ≡ sum_below (length (seeds_of f t)) (λ i. h (tasks_before f before + i))
feeds f are p before after t e l h = sum_over f (shape p).tasks t.stage (tasks_before f before) (length (seeds_of f t)) h
    (λ i k. let r = placed f are p before after t e i k in ap (λ (o : Option ℕ). is_group o t.stage) r.sends ∙ is_group_of t.stage l)
    (λ u k. sender_of f are p before after t e u k)

pub alone : (f : Doing) → AreOperators f → (p : Plan) (before after : List Top) (t : Top) → all_tops p ≡ before ++ t ∷ after → t.way ≡ ToOwn → (u c : ℕ) → sends_at (shape p) u t.stage c ≡ true → u ≡ tasks_before f before + c
alone f are p before after t e w u c h =
    let a = and_parts (is_group (task_at (shape p) u).sends t.stage) (has (task_at (shape p) u).targets c) h in
    let s = sender_of f are p before after t e u a.0 in
    let r = placed f are p before after t e s.0 s.1 in
    let i : has (s.0 ∷ []) c ≡ true = ap (λ (v : Way). has (targets_by v s.0) c) (sym w) ∙ ap (λ (xs : List ℕ). has xs c) (sym r.targets) ∙ ap (λ (n : ℕ). has (task_at (shape p) n).targets c) (sym s.2) ∙ a.1 in
    let q : s.0 ≡ c = one_is s.0 c i in
    s.2 ∙ ap (λ (n : ℕ). tasks_before f before + n) q
  where
    one_is : (x c : ℕ) → has (x ∷ []) c ≡ true → x ≡ c
    one_is x c h = elim (eqb_tells x c) [
      | inl v ↦ v.1
      | inr v ↦ absurd (false≢true (sym (rw v.0 refl) ∙ h))
    ]
