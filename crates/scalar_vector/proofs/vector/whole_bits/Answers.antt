use Rattle.std.proofs.Common.{arith}
use Rattle.std.proofs.lemmas.Grind.{common_steps}
use Rattle.scalar_vector.proofs.LaneSteps.{all_bits}
use Rattle.scalar_vector.proofs.vector.whole_bits.Goals as goal

pub returns-then-is_empty : goal.returns-then-is_empty
returns-then-is_empty c = all_bits c.args.bits.now c.part.result.0.now c.part.result.1.now c.len.result c.part.ensures.value c.len.ensures (grind (arith, common_steps, c.if-is_empty.ensures))
