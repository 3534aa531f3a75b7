use Rattle.std.proofs.Common.{◌≡◌, ◌++◌, map, drop}
use Rattle.plan_shape.specs.Layout.{reader}
use Rattle.plan_shape.proofs.parts.readers.Given as goal

abbrev pub invariant-loop-channel : goal.invariant-loop-channel
invariant-loop-channel l = l.all ++ map (reader l.group) (drop l.channel-index l.channel-items) ≡ map (reader l.group) l.channel-items
