use Rattle.std.proofs.Common.{◌≡◌, ◌+◌, map, drop, length}
use Rattle.plan_shape.specs.Layout.{layout, laid_after, end_to_end}
use Rattle.plan_shape.proofs.layout.+lay.Given as goal

abbrev pub invariant-lay_all-loop-plan : goal.invariant-lay_all-loop-plan
invariant-lay_all-loop-plan l = laid_after l.all (end_to_end (map layout (drop l.plan-index l.plans)) (l.next + length l.all.stages)) ≡ end_to_end (map layout l.plans) l.next
