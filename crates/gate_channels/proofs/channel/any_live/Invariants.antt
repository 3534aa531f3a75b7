use Rattle.std.proofs.Common.{◌≡◌, drop}
use Rattle.gate_channels.specs.Gate.{some_live}
use Rattle.gate_channels.proofs.channel.any_live.Given as goal

-- what is left answers for all
abbrev pub invariant-loop-channel : goal.invariant-loop-channel
invariant-loop-channel g l = some_live (drop l.channel-index l.channels) ≡ some_live l.channels
