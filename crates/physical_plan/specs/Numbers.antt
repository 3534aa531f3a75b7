-- Words: numbers in a row.
use Rattle.std.specs.Prelude.{ℕ, zero, suc, ◌+◌, List, [], ◌∷◌}

-- the numbers below one, ascending, from another on
abbrev pub numbers_from : ℕ → ℕ → List ℕ
numbers_from at zero = []
numbers_from at (suc n) = at ∷ numbers_from (at + 1) n

abbrev pub numbers : ℕ → List ℕ
numbers n = numbers_from 0 n
