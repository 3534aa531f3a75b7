-- A list that is gathered while columns have new places.
use Rattle.std.proofs.Common.{ℕ, Option, Some, None, List, ◌++◌}

-- what is gathered, before the rest where there is one
abbrev pub after : List ℕ → Option (List ℕ) → Option (List ℕ)
after ds None = None
after ds (Some es) = Some (ds ++ es)
