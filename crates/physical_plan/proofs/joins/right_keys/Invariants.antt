use Rattle.std.proofs.Common.{◌≡◌, ◌++◌, drop}
use Rattle.physical_plan.specs.Properties.{right_keys}
use Rattle.physical_plan.proofs.joins.right_keys.Given as goal

abbrev pub invariant-loop-key : goal.invariant-loop-key
invariant-loop-key l = l.columns ++ right_keys (drop l.key-index l.keys) ≡ right_keys l.keys
