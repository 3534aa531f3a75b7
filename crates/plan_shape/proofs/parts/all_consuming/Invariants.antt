use Rattle.std.proofs.Common.{◌≡◌, ◌++◌, map, drop}
use Rattle.plan_shape.specs.Layout.{consuming}
use Rattle.plan_shape.proofs.parts.all_consuming.Given as goal

abbrev pub invariant-loop-part : goal.invariant-loop-part
invariant-loop-part l = l.all ++ map (consuming l.spillable) (drop l.part-index l.parts) ≡ map (consuming l.spillable) l.parts
