use Rattle.gate_channels.proofs.Calls.{none_waits}
use Rattle.gate_channels.proofs.group.Group.new.Goals as goal

pub invariant_of-result : goal.invariant_of-result
invariant_of-result g c = none_waits _ _ _ c.loop-unended.invariant
