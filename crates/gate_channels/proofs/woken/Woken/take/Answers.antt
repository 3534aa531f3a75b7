use Rattle.std.proofs.Common.{arith}
use Rattle.gate_channels.proofs.Distinct.{remove_distinct}
use Rattle.gate_channels.proofs.woken.Woken.take.Goals as goal

pub invariant_of-self : goal.invariant_of-self
invariant_of-self c = (rw c.in-Some.ensures.items (remove_distinct _ _ _ c.self.invariant.0), omega (arith, c.self.invariant.1, c.remove.ensures.capacity))
