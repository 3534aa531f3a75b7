use Rattle.std.proofs.Common.{◌≡◌, ◌+◌, map, drop}
use Rattle.plan_task_laws.specs.Trees.{sum_all, stages_in, sources_in}
use Rattle.task_plans.proofs.numbers.+behind.Given as goal

abbrev pub invariant-behind_all-loop-plan : goal.invariant-behind_all-loop-plan
invariant-behind_all-loop-plan l = record {
  stage : l.place.stage + sum_all (map stages_in (drop l.plan-index l.plans)) ≡ l.fn.at.stage + sum_all (map stages_in l.plans);
  source : l.place.source + sum_all (map sources_in (drop l.plan-index l.plans)) ≡ l.fn.at.source + sum_all (map sources_in l.plans);
}
