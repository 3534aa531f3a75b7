use Rattle.std.proofs.Common.{◌≡◌, ◌++◌, drop}
use Rattle.physical_plan.specs.Properties.{left_keys}
use Rattle.physical_plan.proofs.joins.left_keys.Given as goal

abbrev pub invariant-loop-key : goal.invariant-loop-key
invariant-loop-key l = l.columns ++ left_keys (drop l.key-index l.keys) ≡ left_keys l.keys
