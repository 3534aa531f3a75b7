use Rattle.std.proofs.Common.{◌≡◌, ◌++◌, reverse, length}
use Rattle.enforce_dist.proofs.distribute.reversed.Given as goal

abbrev pub invariant-loop-plan : goal.invariant-loop-plan
invariant-loop-plan l = l.all ++ reverse l.plans ≡ reverse l.fn.plans

abbrev pub decreases-loop-plan : goal.decreases-loop-plan
decreases-loop-plan l = length l.plans
