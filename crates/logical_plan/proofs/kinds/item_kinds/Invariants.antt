use Rattle.std.proofs.Common.{◌≡◌, ◌++◌, drop}
use Rattle.logical_plan.specs.Body as spec
use Rattle.logical_plan.proofs.kinds.item_kinds.Given as goal

abbrev pub invariant-loop-item : goal.invariant-loop-item
invariant-loop-item l = l.kinds.items ++ spec.item_kinds l.columns (drop l.item-index l.items) ≡ spec.item_kinds l.columns l.items
