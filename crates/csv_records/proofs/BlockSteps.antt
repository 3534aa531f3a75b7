-- The bytes of a block, and those behind it.
use Rattle.std.specs.Prelude.{slice_range}
use Rattle.std.proofs.Common.{◌≡◌, refl, ℕ, zero, suc, ◌+◌, ◌≤◌, min, Bool, true, false, ◌&&◌, ◌==◌, cond, List, [], ◌∷◌, ◌++◌, length, take, drop, Option, Some, None, option_map, ap, sym, ◌∙◌, arith, eq-eqb, ne_eqb}
use Rattle.std.proofs.lemmas.Bool.{eqb-true, eqb-false}
use Rattle.std.proofs.lemmas.List.{drop_all, drop-drop, take-append-drop}
use Rattle.csv.specs.Reading.{strip_bom, is_bom}
use Rattle.csv_records.specs.Left.{bytes_left}
use Rattle.csv_records.specs.Marks.{mark}
use Rattle.csv_records.proofs.WindowSteps.{end_of_front}

same_test : (a b : ℕ) → (a == b) ≡ (b == a)
same_test a b = by_test (a == b) refl where
  by_test : (t : Bool) → (a == b) ≡ t → (a == b) ≡ (b == a)
  by_test true e = e ∙ sym (eq-eqb b a (sym (eqb-true a b e)))
  by_test false e = e ∙ sym (ne_eqb b a (λ h. eqb-false a b e (sym h)))

three : (t : Bool) (a b c : ℕ) (rest : List ℕ) (n : ℕ) → drop (cond t 3 0) (a ∷ b ∷ c ∷ take n rest) ++ drop n rest ≡ cond t rest (a ∷ b ∷ c ∷ rest)
three true a b c rest n = take-append-drop n rest
three false a b c rest n = ap (λ (xs : List ℕ). a ∷ b ∷ c ∷ xs) (take-append-drop n rest)

flipped : (a b c : ℕ) → ((0xEF == a) && ((0xBB == b) && ((0xBF == c) && true))) ≡ is_bom a b c
flipped a b c = rw (same_test 0xEF a, same_test 0xBB b, same_test 0xBF c) (anded (a == 0xEF) (b == 0xBB) (c == 0xBF)) where
  anded : (t u w : Bool) → (t && (u && (w && true))) ≡ (t && u && w)
  anded true true true = refl
  anded true true false = refl
  anded true false true = refl
  anded true false false = refl
  anded false u w = refl

one : (a : ℕ) → (t : Bool) → drop (cond (t && false) 3 0) (a ∷ []) ++ [] ≡ a ∷ []
one a true = refl
one a false = refl

two : (a b : ℕ) → (t u : Bool) → drop (cond (t && (u && false)) 3 0) (a ∷ b ∷ []) ++ [] ≡ a ∷ b ∷ []
two a b true true = refl
two a b true false = refl
two a b false true = refl
two a b false false = refl

-- a front with a byte order mark in it, if there is one, has it whole
strip_front : (n : ℕ) (v : List ℕ) → min 3 (length v) ≤ n → drop (mark (take n v)) (take n v) ++ drop n v ≡ strip_bom v
unfolding strip_bom
strip_front zero [] h = refl
strip_front (suc n) [] h = refl
strip_front zero (a ∷ []) h = absurd (omega (arith, h))
strip_front (suc zero) (a ∷ []) h = one a (0xEF == a)
strip_front (suc (suc n)) (a ∷ []) h = one a (0xEF == a)
strip_front zero (a ∷ b ∷ []) h = absurd (omega (arith, h))
strip_front (suc zero) (a ∷ b ∷ []) h = absurd (omega (arith, h))
strip_front (suc (suc zero)) (a ∷ b ∷ []) h = two a b (0xEF == a) (0xBB == b)
strip_front (suc (suc (suc n))) (a ∷ b ∷ []) h = two a b (0xEF == a) (0xBB == b)
strip_front (suc (suc (suc n))) (a ∷ b ∷ c ∷ rest) h = rw (flipped a b c) (three (is_bom a b c) a b c rest n)
strip_front zero (a ∷ b ∷ c ∷ rest) h = absurd (omega (arith, h))
strip_front (suc zero) (a ∷ b ∷ c ∷ rest) h = absurd (omega (arith, h))
strip_front (suc (suc zero)) (a ∷ b ∷ c ∷ rest) h = absurd (omega (arith, h))

-- nothing is left of a source whose end was reached
pub end_left : (o : Option (List ℕ)) (at : ℕ) (bytes : List ℕ) → bytes ≡ [] → ((v : List ℕ) → o ≡ Some v → length v ≤ at)
    → bytes_left o bytes at ≡ option_map (λ (v : List ℕ). []) o
end_left None at bytes e h = refl
end_left (Some v) at bytes e h = rw (e, drop_all at v (h v refl)) refl

-- the first block, behind a byte order mark
pub begin_left : (o : Option (List ℕ)) (n from : ℕ) (block : List ℕ) → from ≡ mark (take n block)
    → ((v : List ℕ) → o ≡ Some v → take n block ≡ take n v) → ((v : List ℕ) → o ≡ Some v → min 3 (length v) ≤ n) → from ≤ n
    → bytes_left o (slice_range block from n) n ≡ option_map strip_bom o
begin_left None n from block is front long within = refl
begin_left (Some v) n from block is front long within =
    let same : slice_range block from n ≡ drop from (take n v) =
    sym (end_of_front block from n within) ∙ ap (drop from) (front v refl) in
    let mark_is : from ≡ mark (take n v) = is ∙ ap mark (front v refl) in
    rw (same, mark_is) (ap Some (strip_front n v (long v refl)))

-- a block with the next bytes behind those that are kept
pub block_left : (o : Option (List ℕ)) (before block : List ℕ) (kept n at start : ℕ)
    → ((v : List ℕ) → o ≡ Some v → slice_range block kept (kept + n) ≡ take n (drop at v)) → before ≡ [] → start ≡ at
    → bytes_left o (slice_range block kept (kept + n)) (at + n) ≡ bytes_left o before start
block_left None before block kept n at start front none here = refl
block_left (Some v) before block kept n at start front none here =
    rw (front v refl, none, here, ← drop-drop) (ap Some (take-append-drop n (drop at v)))
