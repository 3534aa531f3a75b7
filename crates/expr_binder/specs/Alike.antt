-- Words: names that may name one column, by how they are written.
use Rattle.std.specs.Prelude.{ℕ, Bool, true, ◌&&◌, Option, Some, List}
use Rattle.typed_exprs.specs.Scopes.{is_text}

-- two aliases, where both are written, are one
abbrev pub may_be_under : Option (List ℕ) → Option (List ℕ) → Bool
may_be_under (Some p) (Some q) = is_text p q
may_be_under _ _ = true

abbrev pub may_be_one : Option (List ℕ) → List ℕ → Option (List ℕ) → List ℕ → Bool
may_be_one p a q b = is_text a b && may_be_under p q
