use Rattle.std.proofs.Common.{◌≡◌, ◌+◌, ◌≤◌, drop, map, sum, min}
use Rattle.physical_plan.specs.Properties.{partitions}
use Rattle.physical_plan.proofs.counting.+partitions.Given as goal

abbrev pub invariant-partitions_in_all-loop-plan : goal.invariant-partitions_in_all-loop-plan
invariant-partitions_in_all-loop-plan l = record {
  small : l.total ≤ 4294967295;
  total : min (l.total + sum (map partitions (drop l.plan-index l.plans))) 4294967295 ≡ min (sum (map partitions l.plans)) 4294967295;
}
