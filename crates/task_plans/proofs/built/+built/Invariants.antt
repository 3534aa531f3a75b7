use Rattle.std.proofs.Common.{◌≡◌, map, drop}
use Rattle.physical_plan.specs.Everywhere.{all_true}
use Rattle.task_plans.specs.Built.{is_built}
use Rattle.task_plans.proofs.built.+built.Given as goal

abbrev pub invariant-all_built-loop-plan : goal.invariant-all_built-loop-plan
invariant-all_built-loop-plan l = all_true (map is_built (drop l.plan-index l.plans)) ≡ all_true (map is_built l.plans)
