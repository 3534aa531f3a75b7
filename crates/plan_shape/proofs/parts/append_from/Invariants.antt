use Rattle.std.proofs.Common.{◌≡◌, ◌++◌, drop}
use Rattle.plan_shape.proofs.parts.append_from.Given as goal

abbrev pub invariant-loop-at : goal.invariant-loop-at
invariant-loop-at l = l.all ++ drop l.at l.parts ≡ l.initial.all ++ drop l.from l.parts
