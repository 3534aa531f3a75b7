use Rattle.std.proofs.Common.{◌≡◌, drop}
use Rattle.physical_plan.specs.Properties.{place_from}
use Rattle.physical_plan.proofs.renaming.place_in.Given as goal

abbrev pub invariant-loop-at : goal.invariant-loop-at
invariant-loop-at l = place_from l.at (drop l.at l.items) l.column ≡ place_from 0 l.items l.column
