-- The tasks' consumers are numbered on, so each consumer of a shape has one task.
use Rattle.std.proofs.Common.{ℕ, zero, suc, ◌+◌, ◌-◌, ◌<◌, ◌≤◌, ◌≡◌, refl, sym, ap, subst, List, [], ◌∷◌, ◌++◌, length, get_or, true, arith, add-zero, zero-add, ◌∙◌}
use Rattle.std.specs.List.{flat_map}
use Rattle.std.proofs.lemmas.List.{length-append}
use Rattle.std.proofs.lemmas.Bool.{false≢true}
use Rattle.std.proofs.lemmas.Bool.Decides.{nat_tests}
use Rattle.physical_plan.specs.declared.plan.Plan.{Plan}
use Rattle.plan_shape.specs.Layout.{Part, Stage, layout, tasks_of, tasks_from, spills_of, spills_from, stages_of, shape, tail_of}
use Rattle.physical_plan.specs.Numbers.{numbers, numbers_from}
use Rattle.task_shape.specs.Shape.{TaskShape, has, no_task, HasOwners}
use Rattle.plan_shape.proofs.Counts.{has_count, count-numbers_from}

-- consumers are numbered from c on, task by task, up to d
abbrev Spread : ℕ → List TaskShape → ℕ → Type 0
Spread c [] d = c ≡ d
Spread c (t ∷ ts) d = (n : ℕ) × (t.consumers ≡ numbers_from c n) × Spread (c + n) ts d

spread_both : (c d e : ℕ) (ts us : List TaskShape) → Spread c ts d → Spread d us e → Spread c (ts ++ us) e
spread_both c d e [] us h i = subst (λ (n : ℕ). Spread n us e) (sym h) i
spread_both c d e (t ∷ ts) us h i = (h.0, h.1, spread_both (c + h.0) d e ts us h.2 i)

spread_part : (s c : ℕ) (ps : List Part) (ts : List (List ℕ)) → Spread c (tasks_of s c ps ts) (c + length (spills_of ps))
spread_part s c [] ts = sym (add-zero c)
spread_part s c (p ∷ ps) ts =
    let e : c + length p.consumers + length (spills_of ps) ≡ c + length (p.consumers ++ spills_of ps) = rw (length-append p.consumers (spills_of ps)) (omega arith) in
    (length p.consumers, refl, subst (λ (d : ℕ). Spread (c + length p.consumers) (tasks_of s (c + length p.consumers) ps (tail_of ts)) d) e (spread_part s (c + length p.consumers) ps (tail_of ts)))

spread_from : (s c : ℕ) (xs : List Stage) → Spread c (tasks_from s c xs) (c + length (spills_from xs))
spread_from s c [] = sym (add-zero c)
spread_from s c (x ∷ xs) =
    let m = c + length (spills_of x.parts) in
    let e : c + length (spills_of x.parts) + length (spills_from xs) ≡ c + length (spills_of x.parts ++ spills_from xs) = rw (length-append (spills_of x.parts) (spills_from xs)) (omega arith) in
    spread_both c m (c + length (spills_of x.parts ++ spills_from xs)) (tasks_of s c x.parts x.targets) (tasks_from (s + 1) m xs) (spread_part s c x.parts x.targets)
    (subst (λ (d : ℕ). Spread m (tasks_from (s + 1) m xs) d) e (spread_from (s + 1) m xs))

pub numbers_within : (c n x : ℕ) → has (numbers_from c n) x ≡ true → (c ≤ x) × (x < c + n)
numbers_within c n x h =
    let a = has_count (numbers_from c n) x h in
    let b = count-numbers_from n c x in
    (grind (arith, nat_tests), grind (arith, nat_tests))

has_within : (c n x : ℕ) (xs : List ℕ) → xs ≡ numbers_from c n → has xs x ≡ true → (c ≤ x) × (x < c + n)
has_within c n x xs e h = numbers_within c n x (subst (λ ys. has ys x ≡ true) e h)

spread_end : (c d : ℕ) (ts : List TaskShape) → Spread c ts d → c ≤ d
spread_end c d [] h = omega (arith, h)
spread_end c d (t ∷ ts) h = let e = spread_end (c + h.0) d ts h.2 in omega arith

within : (c d : ℕ) (ts : List TaskShape) (t x : ℕ) → Spread c ts d → has (get_or ts t no_task).consumers x ≡ true → (c ≤ x) × (x < d)
within c d [] t x h i = absurd (false≢true i)
within c d (y ∷ ts) zero x h i =
    let w = has_within c h.0 x y.consumers h.1 i in
    let a : x < c + h.0 = w.1 in
    let e = spread_end (c + h.0) d ts h.2 in
    (w.0, omega arith)
within c d (y ∷ ts) (suc t) x h i =
    let w = within (c + h.0) d ts t x h.2 i in
    let a : c + h.0 ≤ x = w.0 in
    (omega arith, w.1)

one_owner : (c d : ℕ) (ts : List TaskShape) (t u x : ℕ) → Spread c ts d → has (get_or ts t no_task).consumers x ≡ true → has (get_or ts u no_task).consumers x ≡ true → t ≡ u
one_owner c d [] t u x h i j = absurd (false≢true i)
one_owner c d (y ∷ ts) zero zero x h i j = refl
one_owner c d (y ∷ ts) zero (suc u) x h i j = absurd (
    let a = has_within c h.0 x y.consumers h.1 i in
    let b = within (c + h.0) d ts u x h.2 j in
    let l : x < c + h.0 = a.1 in
    let m : c + h.0 ≤ x = b.0 in
    omega arith)
one_owner c d (y ∷ ts) (suc t) zero x h i j = absurd (
    let a = has_within c h.0 x y.consumers h.1 j in
    let b = within (c + h.0) d ts t x h.2 i in
    let l : x < c + h.0 = a.1 in
    let m : c + h.0 ≤ x = b.0 in
    omega arith)
one_owner c d (y ∷ ts) (suc t) (suc u) x h i j = ap suc (one_owner (c + h.0) d ts t u x h.2 i j)

pub has_owners : (p : Plan) → HasOwners (shape p)
unfolding shape
has_owners p =
    let xs = stages_of (layout p 1) in
    let h = spread_from 0 0 xs in
    record {
      one_owner = λ t u c i j. one_owner 0 (0 + length (spills_from xs)) (tasks_from 0 0 xs) t u c h i j;
      within = λ t c i. (let w = within 0 (0 + length (spills_from xs)) (tasks_from 0 0 xs) t c h i in let a : c < 0 + length (spills_from xs) = w.1 in omega arith);
    }

pub numbers_append : (c n m : ℕ) → numbers_from c (n + m) ≡ numbers_from c n ++ numbers_from (c + n) m
numbers_append c zero m = rw (zero-add m, add-zero c) refl
numbers_append c (suc n) m =
    let e : suc n + m ≡ suc (n + m) = omega arith in
    let d : c + suc n ≡ c + 1 + n = omega arith in
    rw (e, d) (ap (λ xs. c ∷ xs) (numbers_append (c + 1) n m))

all_numbers : (c d n : ℕ) (ts : List TaskShape) → c + n ≡ d → Spread c ts d → flat_map (λ (t : TaskShape). t.consumers) ts ≡ numbers_from c n
all_numbers c d n [] e h = let z : n ≡ 0 = omega (arith, h) in rw z refl
all_numbers c d n (t ∷ ts) e h =
    let l = spread_end (c + h.0) d ts h.2 in
    let m : ℕ = n - h.0 in
    let s : n ≡ h.0 + m = omega arith in
    ap (λ (xs : List ℕ). xs ++ flat_map (λ (t : TaskShape). t.consumers) ts) h.1
    ∙ ap (λ (xs : List ℕ). numbers_from c h.0 ++ xs) (all_numbers (c + h.0) d m ts (omega arith) h.2)
    ∙ sym (numbers_append c h.0 m)
    ∙ ap (numbers_from c) (sym s)

-- the consumers of all tasks, in order, are all consumers
pub numbered : (p : Plan) → flat_map (λ (t : TaskShape). t.consumers) (shape p).tasks ≡ numbers (length (shape p).spillable)
unfolding shape
numbered p =
    let xs = stages_of (layout p 1) in
    all_numbers 0 (0 + length (spills_from xs)) (length (spills_from xs)) (tasks_from 0 0 xs) refl (spread_from 0 0 xs)
