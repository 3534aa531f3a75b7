use Rattle.std.proofs.Common.{◌≡◌, ◌++◌, reverse, length}
use Rattle.typed_exprs.proofs.case.reversed.Given as goal

abbrev pub invariant-loop-arm : goal.invariant-loop-arm
invariant-loop-arm l = l.all ++ reverse l.arms ≡ reverse l.fn.arms

abbrev pub decreases-loop-arm : goal.decreases-loop-arm
decreases-loop-arm l = length l.arms
