use Rattle.std.proofs.Common.{◌≡◌, true, map, drop}
use Rattle.physical_plan.specs.Everywhere.{all_true}
use Rattle.plan_task_laws.specs.Trees.{Doing}
use Rattle.plan_task_laws.specs.Starts.{tasks_in}
use Rattle.task_plans.specs.Built.{is_built}
use Rattle.task_plans.specs.Added.{tops_over}
use Rattle.task_plans.proofs.Stages.{AddsSoFar}
use Rattle.task_plans.proofs.tasks.+stages.Given as goal

abbrev pub invariant-push_stages_of_all-loop-plan : goal.invariant-push_stages_of_all-loop-plan
invariant-push_stages_of_all-loop-plan l =
    (f : Doing) → all_true (map is_built l.plans) ≡ true
    → AddsSoFar f l.fn.tasks l.tasks (tasks_in f 0 (tops_over (drop l.plan-index l.plans) l.place.stage l.place.source)) (tasks_in f 0 (tops_over l.plans l.fn.at.stage l.fn.at.source))
