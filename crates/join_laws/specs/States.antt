-- Words: what the operator of a hash join holds, and what each call makes of it.
use Rattle.std.specs.Prelude.{ℕ, ◌≤◌, ◌≡◌, Bool, true, false, Option, unwrap_or, List, [], ◌++◌, length, replicate, drop, if◌then◌else◌}
use Rattle.std.specs.List.{flat_map, fold}
use Rattle.dfx_value.specs.declared.op.JoinKind.{JoinKind}
use Rattle.dfx_value.specs.Rows.{cells_at}
use Rattle.scalar_exprs.specs.declared.expr.Expr.{Expr}
use Rattle.logical_plan.specs.Items.{Cells, Item}
use Rattle.logical_plan.specs.Joins.{residual, nulls, alone, keeps_left, keeps_right, when}
use Rattle.physical_plan.specs.Properties.{left_keys, right_keys}
use Rattle.tree_laws.specs.Operators.{Told, Op}
use Rattle.key_laws.specs.Entries.{find}
use Rattle.join_laws.specs.Joining.{hash_join}
use Rattle.join_laws.specs.Tables.{KeyPlaces, entered, row_at, marked, marks_after, unmarked}

-- its settings
pub record Join : Type 0 where
  pub kind : JoinKind
  pub left_width : ℕ
  pub right_width : ℕ
  pub keys : List (ℕ × ℕ)
  pub rest : Option Expr
  pub amount : Told → List Cells → ℕ
  pub consumer : Option ℕ

abbrev pub op_of : Join → Op
op_of j = hash_join j.kind j.left_width j.right_width j.keys j.rest j.amount j.consumer

-- its left rows with the table of their places and a mark for each, the items that wait, and which
-- sides have ended
pub record JoinState : Type 0 where
  pub lefts : List Cells
  pub table : KeyPlaces
  pub marks : List Bool
  pub waiting : List Item
  pub left_over : Bool
  pub right_over : Bool

abbrev pub at_start : JoinState
at_start = record { lefts = []; table = []; marks = []; waiting = []; left_over = false; right_over = false }

-- the places that the table tells of a right row
abbrev pub places_at : Join → JoinState → Cells → List ℕ
places_at j s r = unwrap_or (find s.table (cells_at (right_keys j.keys) r)) []

abbrev pub pairs_at : Join → JoinState → Cells → List Item
pairs_at j s r = flat_map (λ at. residual j.rest (row_at s.lefts at ++ r)) (places_at j s r)

-- what a right row gives
abbrev pub given_by : Join → JoinState → Cells → List Item
given_by j s r =
    pairs_at j s r ++ when (keeps_right j.kind) (alone (nulls j.left_width ++ r) (pairs_at j s r))

-- ---- calls

abbrev pub took_left : Join → JoinState → List Cells → JoinState
took_left j s rows = record s {
  lefts = s.lefts ++ rows;
  table = entered (left_keys j.keys) s.table (length s.lefts) rows;
  marks = s.marks ++ replicate (length rows) false;
}

abbrev pub took_right : Join → JoinState → Cells → JoinState
took_right j s r = record s {
  marks = marked j.rest s.lefts r s.marks (places_at j s r);
  waiting = s.waiting ++ given_by j s r;
}

-- rows of the wanted side
abbrev pub accepted : Join → JoinState → List Cells → JoinState
accepted j s rows = if s.left_over then fold (took_right j) s rows else took_left j s rows

abbrev pub ended_right : Join → JoinState → JoinState
ended_right j s = record s {
  right_over = true;
  waiting = s.waiting ++ when (keeps_left j.kind) (unmarked j.right_width s.lefts s.marks);
}

-- its end
abbrev pub ended : Join → JoinState → JoinState
ended j s = if s.left_over then ended_right j s else record s { left_over = true }

abbrev pub gave : JoinState → ℕ → JoinState
gave s n = record s { waiting = drop n s.waiting }

-- ---- what it stands for

-- an operator that was told this, and gave so many items
pub record StandsFor (j : Join) (s : JoinState) (t : Told) (n : ℕ) : Type 0 where
  pub lefts : s.lefts ≡ t.taken 0
  pub table : s.table ≡ entered (left_keys j.keys) [] 0 (t.taken 0)
  pub marks : s.marks ≡ marks_after j.keys j.rest (t.taken 0) (t.taken 1)
  pub waiting : s.waiting ≡ drop n ((op_of j).items t)
  pub within : n ≤ length ((op_of j).items t)
  pub left_over : s.left_over ≡ t.ended 0
  pub right_over : s.right_over ≡ t.ended 1
  -- nothing came from the right side before the left one's end
  pub early : t.ended 0 ≡ false → (t.taken 1 ≡ []) × (t.ended 1 ≡ false)
