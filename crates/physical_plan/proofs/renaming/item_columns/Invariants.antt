use Rattle.std.proofs.Common.{◌≡◌, ◌++◌, drop}
use Rattle.physical_plan.specs.Properties.{item_columns}
use Rattle.physical_plan.proofs.renaming.item_columns.Given as goal

abbrev pub invariant-loop-item : goal.invariant-loop-item
invariant-loop-item l = l.columns.items ++ item_columns (drop l.item-index l.items) ≡ item_columns l.items
