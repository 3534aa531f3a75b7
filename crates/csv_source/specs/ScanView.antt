-- Meaning: a scan of a CSV file as a caller sees it, and what its calls take of it.
use Rattle.std.specs.Prelude.{◌≡◌, ℕ, ◌<◌, ◌^◌, ◌++◌, ◌∷◌, List, [], length, map, take, drop, Option, Some, None, Ok, Err, Bool}
use Rattle.dfx_value.specs.declared.kind.Kind.{Kind}
use Rattle.dfx_value.specs.declared.value.Value.{Value as Cell}
use Rattle.csv_source.specs.declared.refused.CsvRefused.{CsvRefused}
use Rattle.csv_source.specs.CsvItems.{Item}

-- the source, the kinds of the columns, the items that are left where they are known, and whether a call was refused
pub record ScanView (S : Type 0) : Type 0 where
  pub source : S
  pub kinds : List Kind
  pub left : Option (List Item)
  pub refused : Bool

-- a bound on the items that are left; where they aren't known, on those of any file
abbrev pub left_count : Option (List Item) → ℕ
left_count None = 2 ^ 64
left_count (Some items) = length items

-- ---- what a call takes

-- the rows are the next items, so many or all that there are, and the others are left
pub record GivesRows (count : ℕ) (items : List Item) (rows : List (List Cell)) (left : Option (List Item)) : Type 0 where
  pub next : map Ok rows ≡ take count items
  pub rest : left ≡ Some (drop count items)

-- the refusal is the last item, and among the next so many
pub record IsRefused (count : ℕ) (items : List Item) (e : CsvRefused) : Type 0 where
  pub rows : List (List Cell)
  pub few : length rows < count
  pub is : items ≡ map Ok rows ++ Err e ∷ []

-- the row is the first of these items, and the others are left; without a row there is no item
abbrev pub GivesRow : Option (List Item) → Option (List Cell) → Option (List Item) → Type 0
GivesRow None row left = ⊥
GivesRow (Some items) (Some row) None = ⊥
GivesRow (Some items) (Some row) (Some left) = items ≡ Ok row ∷ left
GivesRow (Some items) None left = items ≡ []
