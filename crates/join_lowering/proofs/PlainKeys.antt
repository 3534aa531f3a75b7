-- A list that is gathered while all keys are plain columns.
use Rattle.std.proofs.Common.{ℕ, Option, Some, None, List, ◌++◌}

-- what is gathered, before the rest where there is one
abbrev pub behind : List (ℕ × ℕ) → Option (List (ℕ × ℕ)) → Option (List (ℕ × ℕ))
behind keys None = None
behind keys (Some more) = Some (keys ++ more)
