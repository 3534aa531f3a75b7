use Rattle.std.proofs.Common.{arith}
use Rattle.std.proofs.lemmas.Grind.{common_steps}
use Rattle.scalar_vector.proofs.LaneSteps.{lane_of}
use Rattle.scalar_vector.proofs.vector.column_lane.Goals as goal

pub returns-then-is_empty : goal.returns-then-is_empty
returns-then-is_empty c = lane_of c.args.column.now.values c.ints.result.0.now c.ints.result.1.now c.len.result c.args.count c.min.result
    c.ints.ensures.value c.len.ensures (grind (arith, common_steps, c.if-is_empty.ensures)) (omega arith)
