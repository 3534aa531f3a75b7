use Rattle.std.proofs.Common.{◌≡◌, ◌++◌, reverse, length, map}
use Rattle.typed_exprs.specs.Case.{arm_as}
use Rattle.typed_exprs.proofs.case.arms_as.Given as goal

abbrev pub invariant-loop-arm : goal.invariant-loop-arm
invariant-loop-arm l = map (arm_as l.kind) l.arms ++ reverse l.backwards ≡ map (arm_as l.kind) l.fn.arms

abbrev pub decreases-loop-arm : goal.decreases-loop-arm
decreases-loop-arm l = length l.arms
