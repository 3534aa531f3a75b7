use Rattle.std.proofs.Common.{◌≡◌, ◌+◌, ◌-◌, ◌++◌}
use Rattle.physical_plan.specs.Numbers.{numbers_from}
use Rattle.plan_shape.proofs.numbers.numbers_from.Given as goal

abbrev pub invariant-loop-at : goal.invariant-loop-at
invariant-loop-at l = l.all ++ numbers_from (l.first + l.at) (l.count - l.at) ≡ numbers_from (l.first + 0) l.count
