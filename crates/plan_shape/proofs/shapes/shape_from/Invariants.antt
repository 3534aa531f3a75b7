use Rattle.std.proofs.Common.{◌≡◌, ◌++◌, drop, length}
use Rattle.plan_shape.specs.Layout.{tasks_from, spills_from, widths_of}
use Rattle.plan_shape.proofs.shapes.shape_from.Given as goal

abbrev pub invariant-loop-at : goal.invariant-loop-at
invariant-loop-at l = record {
  tasks : l.tasks ++ tasks_from l.at (length l.spillable) (drop l.at l.stages) ≡ tasks_from 0 0 l.stages;
  widths : l.widths ++ widths_of (drop l.at l.stages) ≡ widths_of l.stages;
  spills : l.spillable ++ spills_from (drop l.at l.stages) ≡ spills_from l.stages;
}
