use Rattle.std.proofs.Common.{◌≡◌, ◌≤◌, length, drop, map}
use Rattle.dfx_value.specs.declared.value.Value.{Value}
use Rattle.value_columns.specs.Columns.{or_null}
use Rattle.scalar_vector.specs.Items.{items_of}
use Rattle.scalar_vector.specs.Woven.{woven, after}
use Rattle.scalar_vector.proofs.items.weave_items.Given as goal

abbrev pub invariant-loop-mark : goal.invariant-loop-mark
invariant-loop-mark g l =
    ((f : g.row.T.Denot → Value) → after (map (or_null f) l.woven) (woven (drop l.mark-index l.marks) (drop l.from_taken (map (or_null f) (items_of l.taken))) l.taken_fault (drop l.from_rest (map (or_null f) (items_of l.rest))) l.rest_fault)
    ≡ woven l.marks (map (or_null f) (items_of l.taken)) l.taken_fault (map (or_null f) (items_of l.rest)) l.rest_fault)
    × l.from_taken ≤ length (items_of l.taken)
    × l.from_rest ≤ length (items_of l.rest)
