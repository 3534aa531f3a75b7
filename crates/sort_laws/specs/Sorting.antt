-- Meaning: the stable sort, of rows and of items, and the least front of runs.
use Rattle.std.specs.Prelude.{ℕ, ◌<◌, ◌≡◌, Bool, true, false, List, [], ◌∷◌, ◌++◌, Ok, Err, slice_index_or, if◌then◌else◌, IsSorted}
use Rattle.std.specs.Ordering.{is_lt}
use Rattle.dfx_value.specs.Rows.{row_cmp}
use Rattle.dfx_value.specs.declared.rows.SortKey.{SortKey}
use Rattle.logical_plan.specs.Items.{Cells, Item, rows, faults, of_rows, of_faults}
use Rattle.tree_laws.specs.OperatorKinds.{merge}

module _ {X : Type 0} (lt : X → X → Bool) where
  -- x before the first that isn't less
  abbrev pub put : X → List X → List X
  put x [] = x ∷ []
  put x (y ∷ ys) = if lt y x then y ∷ put x ys else x ∷ y ∷ ys

  -- in ascending order, ties in the order in which they stood
  abbrev pub sorted : List X → List X
  sorted [] = []
  sorted (x ∷ xs) = put x (sorted xs)

-- ---- rows and items

abbrev pub row_before : List SortKey → Cells → Cells → Bool
row_before keys r s = is_lt (row_cmp keys r s)

abbrev pub sort_rows : List SortKey → List Cells → List Cells
sort_rows keys = sorted (row_before keys)

-- a fault before every row
abbrev pub item_before : List SortKey → Item → Item → Bool
item_before keys (Err f) (Err g) = false
item_before keys (Err f) (Ok s) = true
item_before keys (Ok r) (Err g) = false
item_before keys (Ok r) (Ok s) = row_before keys r s

-- what a sort gives: the faults, then the rows
abbrev pub sort_items : List SortKey → List Item → List Item
sort_items keys items = of_faults (faults items) ++ of_rows (sort_rows keys (rows items))

-- what a merge gives of n whole inputs
abbrev pub merge_items : List SortKey → ℕ → (ℕ → List Item) → List Item
merge_items keys n inputs = (merge (item_before keys) n inputs (λ _. true)).given

-- ---- runs

abbrev pub run : List (List Cells) → ℕ → List Cells
run runs i = slice_index_or runs i []

abbrev pub AreSorted : List SortKey → List (List Cells) → Type 0
AreSorted keys runs = (j : ℕ) → IsSorted (row_cmp keys) (run runs j)

-- a fact of the first row, where there is one
abbrev pub OfFirst : (Cells → Type 0) → List Cells → Type 0
OfFirst P [] = Unit {0}
OfFirst P (r ∷ rs) = P r

-- the first row of run i, with the rest of the run: it comes before the first rows of earlier runs,
-- and those of later ones don't come before it
pub record IsLeastFront (keys : List SortKey) (runs : List (List Cells)) (i : ℕ) (row : Cells) (rest : List Cells)
    : Type 0 where
  pub here : run runs i ≡ row ∷ rest
  pub earlier : (j : ℕ) → j < i → OfFirst (λ s. row_before keys row s ≡ true) (run runs j)
  pub later : (j : ℕ) → i < j → OfFirst (λ s. row_before keys s row ≡ false) (run runs j)
