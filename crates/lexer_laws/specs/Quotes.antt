-- Meaning: how a text is written between quotes.
use Rattle.std.specs.Prelude.{ℕ, nat_eq, List, [], ◌∷◌, if◌then◌else◌}

-- with each of its quotes twice
abbrev pub doubled : ℕ → List ℕ → List ℕ
doubled q [] = []
doubled q (b ∷ bs) = if nat_eq b q then b ∷ b ∷ doubled q bs else b ∷ doubled q bs
