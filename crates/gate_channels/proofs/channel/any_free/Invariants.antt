use Rattle.std.proofs.Common.{◌≡◌, drop}
use Rattle.gate_channels.specs.Gate.{some_free}
use Rattle.gate_channels.proofs.channel.any_free.Given as goal

abbrev pub invariant-loop-channel : goal.invariant-loop-channel
invariant-loop-channel g l = some_free (drop l.channel-index l.channels) ≡ some_free l.channels
