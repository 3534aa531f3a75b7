-- Meaning: lists in the text of a plan.
use Rattle.std.specs.Prelude.{ℕ, List, [], ◌∷◌, ◌++◌, codes}

-- texts in a row: what stands before the first is given, and before each further one a comma and a
-- space
abbrev pub separated_after : List ℕ → List (List ℕ) → List ℕ
separated_after before [] = []
separated_after before (t ∷ ts) = before ++ (t ++ separated_after (codes ", ") ts)

-- texts with a comma and a space between each two
abbrev pub separated : List (List ℕ) → List ℕ
separated ts = separated_after [] ts

-- the same between brackets
abbrev pub bracketed : List (List ℕ) → List ℕ
bracketed ts = codes "[" ++ (separated ts ++ codes "]")
