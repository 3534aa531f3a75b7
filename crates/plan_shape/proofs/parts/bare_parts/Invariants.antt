use Rattle.std.proofs.Common.{◌≡◌, ◌-◌, ◌++◌, replicate}
use Rattle.plan_shape.specs.Layout.{bare}
use Rattle.plan_shape.proofs.parts.bare_parts.Given as goal

abbrev pub invariant-loop-at : goal.invariant-loop-at
invariant-loop-at l = l.all ++ replicate (l.count - l._at) bare ≡ replicate l.count bare
