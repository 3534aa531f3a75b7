use Rattle.std.proofs.Common.{◌≡◌, take, map}
use Rattle.gate_channels.specs.Group.{opened_for}
use Rattle.gate_channels.proofs.group.Group.new.Given as goal

-- a channel for each number so far
abbrev pub invariant-loop-unended : goal.invariant-loop-unended
invariant-loop-unended g l = l.channels.items ≡ map opened_for (take l.unended-index l.senders)
