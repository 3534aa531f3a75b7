use Rattle.std.proofs.Common.{◌≡◌, ◌-◌, ◌++◌}
use Rattle.plan_shape.specs.Counts.{places}
use Rattle.plan_shape.proofs.counting.push_places.Given as goal

abbrev pub invariant-loop-partition : goal.invariant-loop-partition
invariant-loop-partition l = l.tasks.items ++ places l.stage l.partition (l.count - l.partition) ≡ l.initial.tasks.items ++ places l.stage 0 l.count
