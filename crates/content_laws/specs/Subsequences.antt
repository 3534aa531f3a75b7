-- Meaning: subsequences: some elements of a list, in its order.
use Rattle.std.specs.Prelude.{◌≡◌, ◌⊎◌, List, [], ◌∷◌}

-- xs has some elements of ys, in their order: it goes on without the first of ys, or begins with it
abbrev pub IsSubsequence : {A : Type 0} → List A → List A → Type 0
IsSubsequence {A} xs [] = xs ≡ []
IsSubsequence {A} xs (y ∷ ys) = IsSubsequence xs ys ⊎ ((rest : List A) × (xs ≡ y ∷ rest) × IsSubsequence rest ys)
