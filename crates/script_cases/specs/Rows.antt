-- Meaning: the rows of a CSV text, and texts with the same rows.
use Rattle.std.specs.Prelude.{◌≡◌, ℕ, Bool, true, false, ◌&&◌, ◌==◌, not, List, [], ◌∷◌, ◌++◌, if◌then◌else◌}
use Rattle.std.specs.List.Sorted.{IsPermutation}

-- a quote begins or ends a part in which a line feed ends no row
abbrev pub quoted_after : Bool → ℕ → Bool
quoted_after quoted b = if b == 34 then not quoted else quoted

abbrev pub ends_row : Bool → ℕ → Bool
ends_row quoted b = b == 10 && not quoted

abbrev pub last_row : List ℕ → List (List ℕ)
last_row [] = []
last_row (b ∷ bs) = (b ∷ bs) ∷ []

-- what follows a byte: where a row ends with it, that row and then the others
abbrev pub row_after : Bool → List ℕ → (List ℕ → List (List ℕ)) → List (List ℕ)
row_after true row others = row ∷ others []
row_after false row others = others row

-- the rows of a text, of which the first began before it
abbrev pub rows_behind : List ℕ → Bool → List ℕ → List (List ℕ)
rows_behind [] quoted row = last_row row
rows_behind (b ∷ bs) quoted row =
    row_after (ends_row (quoted_after quoted b) b) (row ++ b ∷ []) (λ begun. rows_behind bs (quoted_after quoted b) begun)

-- each with its line feed
abbrev pub rows_of : List ℕ → List (List ℕ)
rows_of text = rows_behind text false []

abbrev pub first_of : List (List ℕ) → List ℕ
first_of [] = []
first_of (row ∷ rows) = row

-- the first row at its place, and the others in any order
pub record SameRows (wanted came : List (List ℕ)) : Type 0 where
  pub first : first_of wanted ≡ first_of came
  pub all : IsPermutation wanted came
