use Rattle.std.proofs.Common.{◌≡◌, ◌+◌, map, drop}
use Rattle.plan_shape.specs.Counts.{in_all, counts_of}
use Rattle.task_plans.proofs.numbers.+width.Given as goal

abbrev pub invariant-width_of_all-loop-plan : goal.invariant-width_of_all-loop-plan
invariant-width_of_all-loop-plan l = l.total + (in_all (map counts_of (drop l.plan-index l.plans))).parts ≡ (in_all (map counts_of l.plans)).parts
