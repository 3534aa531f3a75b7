use Rattle.std.proofs.Common.{◌≡◌, ◌++◌, reverse, length, map}
use Rattle.enforce_sort.specs.Arrange.{enforce_sorting}
use Rattle.enforce_sort.proofs.arrange.+arrange.Given as goal

abbrev pub invariant-arrange_all-loop-plan : goal.invariant-arrange_all-loop-plan
invariant-arrange_all-loop-plan l = record {
  deep : goal.no_deeper-arrange_all-loop-plan l;
  same : map enforce_sorting l.inputs ++ reverse l.backwards ≡ map enforce_sorting l.fn.inputs;
}

abbrev pub decreases-arrange_all-loop-plan : goal.decreases-arrange_all-loop-plan
decreases-arrange_all-loop-plan l = length l.inputs
