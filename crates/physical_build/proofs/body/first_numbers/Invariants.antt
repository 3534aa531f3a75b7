use Rattle.std.proofs.Common.{◌≡◌}
use Rattle.physical_plan.specs.Numbers.{numbers}
use Rattle.physical_build.proofs.body.first_numbers.Given as goal

abbrev pub invariant-loop-number : goal.invariant-loop-number
invariant-loop-number l = l.all ≡ numbers l.number
