use Rattle.std.proofs.Common.{◌≡◌, ◌++◌, drop}
use Rattle.physical_plan.specs.Properties.{joined_pairs}
use Rattle.physical_plan.proofs.joins.joined_pairs.Given as goal

abbrev pub invariant-loop-key : goal.invariant-loop-key
invariant-loop-key l = l.pairs ++ joined_pairs l.width (drop l.key-index l.keys) ≡ joined_pairs l.width l.keys
