use Rattle.std.proofs.Common.{◌≡◌, ◌++◌, drop}
use Rattle.plan_shape.specs.Layout.{tasks_of}
use Rattle.plan_shape.proofs.tasks.push_tasks.Given as goal

abbrev pub invariant-loop-at : goal.invariant-loop-at
invariant-loop-at l = l.tasks ++ tasks_of l.stage l.consumer (drop l.at l.parts) (drop l.at l.targets) ≡ l.initial.tasks ++ tasks_of l.stage l.first l.parts l.targets
