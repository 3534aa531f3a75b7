use Rattle.std.proofs.Common.{◌≡◌, ◌++◌, drop}
use Rattle.plan_shape.specs.Counts.{places_from}
use Rattle.plan_shape.proofs.counting.stages.Given as goal

abbrev pub invariant-loop-at : goal.invariant-loop-at
invariant-loop-at l = l.tasks.items ++ places_from l.at (drop l.at l.counts.items) ≡ places_from 0 l.counts.items
