-- One turn of each loop, and its end.
use Rattle.std.proofs.Common.{ℕ, zero, suc, ◌+◌, ◌-◌, ◌<◌, ◌≤◌, ◌≡◌, refl, sym, ap, ◌∙◌, List, [], ◌∷◌, ◌++◌, length, min, drop, replicate, append_assoc, arith}
use Rattle.std.specs.Prelude.{slice_index_or}
use Rattle.std.proofs.lemmas.List.{drop_more}
use Rattle.task_shape.specs.Shape.{TaskShape}
use Rattle.plan_shape.specs.Layout.{Part, bare, beside, head_or, tail_of, tasks_of}
use Rattle.physical_plan.specs.Numbers.{numbers_from}
use Rattle.plan_shape.specs.Tasked.{tasked}

pub numbers_step : (xs : List ℕ) (first at n : ℕ) → at < n → (xs ++ (first + at) ∷ []) ++ numbers_from (first + (at + 1)) (n - (at + 1)) ≡ xs ++ numbers_from (first + at) (n - at)
numbers_step xs first at n l =
    append_assoc xs ((first + at) ∷ []) (numbers_from (first + (at + 1)) (n - (at + 1)))
    ∙ ap (λ (ys : List ℕ). xs ++ ys) (sym step)
  where
    step : numbers_from (first + at) (n - at) ≡ (first + at) ∷ numbers_from (first + (at + 1)) (n - (at + 1))
    step = let e : n - at ≡ suc (n - (at + 1)) = omega arith in let q : first + at + 1 ≡ first + (at + 1) = omega arith in rw e (ap (λ (k : ℕ). (first + at) ∷ numbers_from k (n - (at + 1))) q)

pub numbers_end : (first at n : ℕ) → n ≡ at → numbers_from (first + at) (n - at) ≡ []
numbers_end first at n e = let z : n - at ≡ 0 = omega arith in rw z refl

pub bare_step : (ps : List Part) (at n : ℕ) → at < n → (ps ++ bare ∷ []) ++ replicate (n - (at + 1)) bare ≡ ps ++ replicate (n - at) bare
bare_step ps at n l =
    append_assoc ps (bare ∷ []) (replicate (n - (at + 1)) bare)
    ∙ ap (λ (qs : List Part). ps ++ qs) (sym step)
  where
    step : replicate (n - at) bare ≡ bare ∷ replicate (n - (at + 1)) bare
    step = let e : n - at ≡ suc (n - (at + 1)) = omega arith in rw e refl

pub bare_end : (at n : ℕ) → n ≡ at → replicate (n - at) bare ≡ []
bare_end at n e = let z : n - at ≡ 0 = omega arith in rw z refl

-- where one of the lists has ended, what is left of the other stands alone
left_over : (ps qs : List Part) (at : ℕ) → at ≡ min (length ps) (length qs) → beside (drop at ps) (drop at qs) ≡ drop at ps ++ drop at qs
left_over [] qs zero e = refl
left_over [] qs (suc at) e = absurd (omega arith)
left_over (p ∷ ps) [] zero e = sym (all_there (p ∷ ps))
  where
    all_there : (xs : List Part) → xs ++ [] ≡ xs
    all_there [] = refl
    all_there (x ∷ xs) = ap (λ (ys : List Part). x ∷ ys) (all_there xs)
left_over (p ∷ ps) [] (suc at) e = absurd (omega arith)
left_over (p ∷ ps) (q ∷ qs) zero e = absurd (omega arith)
left_over (p ∷ ps) (q ∷ qs) (suc at) e = left_over ps qs at (omega arith)

pub beside_end : (all ps qs : List Part) (at both : ℕ) → at ≡ both → both ≡ min (length ps) (length qs) → all ++ beside (drop at ps) (drop at qs) ≡ (all ++ drop both ps) ++ drop both qs
beside_end all ps qs at both e f =
    ap (λ (k : ℕ). all ++ beside (drop k ps) (drop k qs)) e
    ∙ ap (λ (xs : List Part). all ++ xs) (left_over ps qs both f)
    ∙ sym (append_assoc all (drop both ps) (drop both qs))

-- ---- tasks

abbrev no_targets : List (List ℕ)
no_targets = []

drop_none : (k : ℕ) → drop k no_targets ≡ no_targets
drop_none zero = refl
drop_none (suc k) = refl

tail_more : (ts : List (List ℕ)) (at : ℕ) → tail_of (drop at ts) ≡ drop (at + 1) ts
tail_more [] at = ap tail_of (drop_none at) ∙ sym (drop_none (at + 1))
tail_more (t ∷ ts) zero = refl
tail_more (t ∷ ts) (suc at) = let e : suc at + 1 ≡ suc (at + 1) = omega arith in tail_more ts at ∙ ap (λ (k : ℕ). drop k (t ∷ ts)) (sym e)

-- p is the part at the place
pub tasks_step : (xs : List TaskShape) (s c at : ℕ) (ps : List Part) (ts : List (List ℕ)) (p : Part) → at < length ps → p ≡ slice_index_or ps at p → (xs ++ tasked s c p (head_or (drop at ts)) ∷ []) ++ tasks_of s (c + length p.consumers) (drop (at + 1) ps) (drop (at + 1) ts) ≡ xs ++ tasks_of s c (drop at ps) (drop at ts)
tasks_step xs s c at ps ts p l e =
    append_assoc xs (tasked s c p (head_or (drop at ts)) ∷ []) (tasks_of s (c + length p.consumers) (drop (at + 1) ps) (drop (at + 1) ts))
    ∙ ap (λ (rest : List (List ℕ)). xs ++ tasked s c p (head_or (drop at ts)) ∷ tasks_of s (c + length p.consumers) (drop (at + 1) ps) rest) (sym (tail_more ts at))
    ∙ ap (λ (qs : List Part). xs ++ tasks_of s c qs (drop at ts)) (sym (drop_more ps at p l ∙ ap (λ (q : Part). q ∷ drop (at + 1) ps) (sym e)))

none_left : (ps : List Part) (at : ℕ) → length ps ≤ at → drop at ps ≡ []
none_left [] zero h = refl
none_left [] (suc at) h = refl
none_left (p ∷ ps) zero h = absurd (omega arith)
none_left (p ∷ ps) (suc at) h = none_left ps at (omega arith)

pub tasks_end : (s c at : ℕ) (ps : List Part) (ts : List (List ℕ)) → length ps ≤ at → tasks_of s c (drop at ps) ts ≡ []
tasks_end s c at ps ts h = ap (λ (qs : List Part). tasks_of s c qs ts) (none_left ps at h)
