-- One column more.
use Rattle.std.proofs.Common.{◌≡◌, ap, sym, ◌∙◌, ℕ, zero, suc, ◌+◌, List, [], ◌∷◌, ◌++◌, arith}
use Rattle.logical_build.specs.Groups.{columns_from, first_columns as first}

from_push : (n at : ℕ) → columns_from at (suc n) ≡ columns_from at n ++ (at + n) ∷ []
from_push zero at = let e : at + 0 ≡ at = omega arith in ap (λ (x : ℕ). x ∷ []) (sym e)
from_push (suc n) at = let e : at + suc n ≡ at + 1 + n = omega arith in ap (λ (xs : List ℕ). at ∷ xs) (from_push n (at + 1)) ∙ ap (λ (x : ℕ). at ∷ columns_from (at + 1) n ++ x ∷ []) (sym e)

pub first_push : (n : ℕ) → first (n + 1) ≡ first n ++ n ∷ []
first_push n = let e : n + 1 ≡ suc n = omega arith in let z : 0 + n ≡ n = omega arith in ap first e ∙ from_push n 0 ∙ ap (λ (x : ℕ). first n ++ x ∷ []) z

pub ruleset first_columns = (first_push)
