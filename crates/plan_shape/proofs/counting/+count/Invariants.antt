use Rattle.std.proofs.Common.{◌≡◌, ◌+◌, ◌++◌, drop, map}
use Rattle.plan_shape.specs.Counts.{in_all, counts_of}
use Rattle.plan_shape.proofs.counting.+count.Given as goal

abbrev pub invariant-count_all-loop-plan : goal.invariant-count_all-loop-plan
invariant-count_all-loop-plan l = record {
  parts : l.total + (in_all (map counts_of (drop l.plan-index l.plans))).parts ≡ (in_all (map counts_of l.plans)).parts;
  stages : l.stages.items ++ (in_all (map counts_of (drop l.plan-index l.plans))).stages ≡ l.initial.stages.items ++ (in_all (map counts_of l.plans)).stages;
}
