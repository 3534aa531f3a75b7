use Rattle.std.proofs.Common.{◌≡◌, ◌++◌, drop}
use Rattle.plan_shape.specs.Layout.{spills_of}
use Rattle.plan_shape.proofs.tasks.push_spills.Given as goal

abbrev pub invariant-loop-part : goal.invariant-loop-part
invariant-loop-part l = l.spillable ++ spills_of (drop l.part-index l.parts) ≡ l.initial.spillable ++ spills_of l.parts
