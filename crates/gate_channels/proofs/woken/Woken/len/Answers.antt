use Rattle.std.proofs.Common.{◌≤◌, length, arith}
use Rattle.gate_channels.proofs.Distinct.{length_below}
use Rattle.gate_channels.proofs.woken.Woken.len.Goals as goal

-- no more tasks than there is room for
pub overflow_cast-result : goal.overflow_cast-result
overflow_cast-result c =
    let short : length c.self.inside.queue.items ≤ c.self.inside.room = length_below _ _ c.self.invariant.0 in omega arith
