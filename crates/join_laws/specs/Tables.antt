-- Words: the table by which a join finds the left rows of a right row, and the marks of left rows.
use Rattle.std.specs.Prelude.{ℕ, suc, Bool, true, false, Option, unwrap_or, List, [], ◌∷◌, ◌++◌, length, replicate, slice_set, slice_index_or, Ok, if◌then◌else◌}
use Rattle.std.specs.List.{fold, list_any}
use Rattle.dfx_value.specs.Rows.{cells_at}
use Rattle.scalar_exprs.specs.declared.expr.Expr.{Expr}
use Rattle.scalar_exprs.specs.Truth.{is_null}
use Rattle.logical_plan.specs.Items.{Cells, Item}
use Rattle.logical_plan.specs.Joins.{residual, nulls}
use Rattle.physical_plan.specs.Properties.{left_keys, right_keys}
use Rattle.key_laws.specs.Entries.{upsert, find}
use Rattle.tree_laws.specs.OperatorKinds.{is_empty}

-- ---- the places of left rows, by their keys

abbrev pub KeyPlaces : Type 0
KeyPlaces = List (Cells × List ℕ)

-- one more left row, of this place: a row with a NULL among its keys matches nothing, and stays out
abbrev pub enter : List ℕ → KeyPlaces → ℕ → Cells → KeyPlaces
enter columns t at l =
    if list_any is_null (cells_at columns l) then t
    else upsert t (cells_at columns l) [] (λ places. places ++ at ∷ [])

-- more left rows, the first of which has this place
abbrev pub entered : List ℕ → KeyPlaces → ℕ → List Cells → KeyPlaces
entered columns t at [] = t
entered columns t at (l ∷ ls) = entered columns (enter columns t at l) (suc at) ls

-- the places of the left rows that match a right row, by the table of all left rows
abbrev pub matches : List (ℕ × ℕ) → List Cells → Cells → List ℕ
matches keys ls r = unwrap_or (find (entered (left_keys keys) [] 0 ls) (cells_at (right_keys keys) r)) []

-- the places of rows that pass a test, the first of which has this place
abbrev pub places_of : (Cells → Bool) → ℕ → List Cells → List ℕ
places_of test at [] = []
places_of test at (l ∷ ls) = if test l then at ∷ places_of test (suc at) ls else places_of test (suc at) ls

abbrev pub row_at : List Cells → ℕ → Cells
row_at ls at = slice_index_or ls at []

-- ---- marks

-- the left rows of these places marked, where they give something with a right row
abbrev pub marked : Option Expr → List Cells → Cells → List Bool → List ℕ → List Bool
marked rest ls r marks [] = marks
marked rest ls r marks (at ∷ more) =
    marked rest ls r (if is_empty (residual rest (row_at ls at ++ r)) then marks else slice_set marks at true) more

-- after these right rows, each with the places that the table tells
abbrev pub marks_after : List (ℕ × ℕ) → Option Expr → List Cells → List Cells → List Bool
marks_after keys rest ls rs =
    fold (λ marks r. marked rest ls r marks (matches keys ls r)) (replicate (length ls) false) rs

-- the rows without a mark, padded
abbrev pub unmarked : ℕ → List Cells → List Bool → List Item
unmarked width (l ∷ ls) (mark ∷ marks) =
    if mark then unmarked width ls marks else Ok (l ++ nulls width) ∷ unmarked width ls marks
unmarked width _ _ = []
