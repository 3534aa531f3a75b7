use Rattle.std.proofs.Common.{◌≡◌, ◌++◌, drop}
use Rattle.physical_plan.specs.Properties.{shifted}
use Rattle.physical_plan.proofs.joins.shifted.Given as goal

abbrev pub invariant-loop-pair : goal.invariant-loop-pair
invariant-loop-pair l = l.shifted ++ shifted l.width (drop l.pair-index l.pairs) ≡ shifted l.width l.pairs
