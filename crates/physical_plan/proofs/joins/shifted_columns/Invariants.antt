use Rattle.std.proofs.Common.{◌≡◌, ◌++◌, drop}
use Rattle.physical_plan.specs.Properties.{shifted_columns}
use Rattle.physical_plan.proofs.joins.shifted_columns.Given as goal

abbrev pub invariant-loop-column : goal.invariant-loop-column
invariant-loop-column l = l.shifted ++ shifted_columns l.width (drop l.column-index l.columns) ≡ shifted_columns l.width l.columns
