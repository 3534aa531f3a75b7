use Rattle.std.proofs.Common.{◌≡◌, ◌++◌, drop}
use Rattle.plan_shape.specs.Layout.{beside}
use Rattle.plan_shape.proofs.parts.beside.Given as goal

abbrev pub invariant-loop-at : goal.invariant-loop-at
invariant-loop-at l = l.all ++ beside (drop l.at l.left) (drop l.at l.right) ≡ beside l.left l.right
