use Rattle.std.proofs.Common.{◌≡◌, ◌+◌, None, drop, map, sum}
use Rattle.physical_plan.specs.Properties.{declared_of, width_after, counts}
use Rattle.physical_plan.proofs.properties.+declare.Given as goal

abbrev pub invariant-united-loop-input : goal.invariant-united-loop-input
invariant-united-loop-input l = record {
  first : width_after l.first (map declared_of (drop l.input-index l.inputs)) ≡ width_after None (map declared_of l.inputs);
  total : l.total + sum (counts (map declared_of (drop l.input-index l.inputs))) ≡ sum (counts (map declared_of l.inputs));
}
