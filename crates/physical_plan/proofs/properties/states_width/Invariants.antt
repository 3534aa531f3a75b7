use Rattle.std.proofs.Common.{◌≡◌, ◌+◌, drop, map, sum}
use Rattle.physical_plan.specs.Properties.{state_width}
use Rattle.physical_plan.proofs.properties.states_width.Given as goal

abbrev pub invariant-loop-call : goal.invariant-loop-call
invariant-loop-call l = l.width + sum (map state_width (drop l.call-index l.calls)) ≡ sum (map state_width l.calls)
