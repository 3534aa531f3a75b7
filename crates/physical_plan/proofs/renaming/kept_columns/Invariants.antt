use Rattle.std.proofs.Common.{◌≡◌, ◌++◌, drop}
use Rattle.physical_plan.specs.Properties.{kept_columns}
use Rattle.physical_plan.proofs.renaming.kept_columns.Given as goal

abbrev pub invariant-loop-key : goal.invariant-loop-key
invariant-loop-key l = l.columns.items ++ kept_columns (drop l.key-index l.keys) ≡ kept_columns l.keys
