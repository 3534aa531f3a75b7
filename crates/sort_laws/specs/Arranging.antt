-- Meaning: an arrangement of items with the rows and the faults where another list has them.
use Rattle.std.specs.Prelude.{◌≡◌, Bool, true, false, List, map, Ok, Err, IsPermutation}
use Rattle.logical_plan.specs.Items.{Item, rows}

abbrev pub is_row : Item → Bool
is_row (Ok r) = true
is_row (Err f) = false

-- an arrangement of ys with rows and faults where xs has them, and with the rows of xs
pub record IsArrangedAs (xs ys zs : List Item) : Type 0 where
  pub same : IsPermutation zs ys
  pub rows_same : rows zs ≡ rows xs
  pub places : map is_row zs ≡ map is_row xs
