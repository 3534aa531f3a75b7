-- Sums of what is left of a list, cut at the largest number.
use Rattle.std.specs.List.{sum_by}
use Rattle.std.proofs.Common.{ℕ, ◌+◌, ◌≡◌, ◌≤◌, sym, ap, ◌∙◌, List, ◌∷◌, sum, min, arith}
use Rattle.std.proofs.lemmas.List.Sums.{sum_by_from}

pub sum_rest : (x : ℕ) (xs : List ℕ) → sum (x ∷ xs) ≡ x + sum xs
sum_rest x xs = sum_by_from (λ (y : ℕ). y) (0 + x) xs ∙ moved (sum_by (λ (y : ℕ). y) xs) ∙ ap (λ (n : ℕ). x + n) (sym (sum_by_from (λ (y : ℕ). y) 0 xs))
  where
    moved : (n : ℕ) → 0 + x + n ≡ x + (0 + n)
    moved n = omega arith

pub cut_end : (x s : ℕ) → x ≤ 4294967295 → min (x + 0) 4294967295 ≡ s → x ≡ s
cut_end x s h e = omega arith

pub cut_step : (x y s : ℕ) → min (min (x + min y 4294967295) 4294967295 + s) 4294967295 ≡ min (x + (y + s)) 4294967295
cut_step x y s = omega arith
