use Rattle.std.proofs.Common.{◌≡◌, ◌++◌, drop}
use Rattle.physical_plan.specs.Properties.{literals_from}
use Rattle.physical_plan.proofs.renaming.push_literals.Given as goal

abbrev pub invariant-loop-at : goal.invariant-loop-at
invariant-loop-at l = l.places ++ literals_from l.at (drop l.at l.items) ≡ l.fn.places ++ literals_from 0 l.items
