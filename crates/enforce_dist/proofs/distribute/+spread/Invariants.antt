use Rattle.std.proofs.Common.{◌≡◌, ◌++◌, reverse, length, map}
use Rattle.enforce_dist.specs.Distribute.{Below, distributed}
use Rattle.enforce_dist.proofs.distribute.+spread.Given as goal

abbrev pub invariant-distribute_all-loop-plan : goal.invariant-distribute_all-loop-plan
invariant-distribute_all-loop-plan l = record {
  deep : goal.no_deeper-distribute_all-loop-plan l;
  same : map (λ (f : Below). f l.above) (map (distributed l.n) l.inputs) ++ reverse l.backwards ≡ map (λ (f : Below). f l.above) (map (distributed l.n) l.fn.inputs);
}

abbrev pub decreases-distribute_all-loop-plan : goal.decreases-distribute_all-loop-plan
decreases-distribute_all-loop-plan l = length l.inputs
