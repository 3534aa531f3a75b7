use Rattle.std.proofs.Common.{◌≡◌, true}
use Rattle.task_plans.specs.Built.{is_built}
use Rattle.task_plans.proofs.Pushes.{ok_is}
use Rattle.task_plans.proofs.Stages.{all_tasks}
use Rattle.task_plans.proofs.tasks.task_plans.Goals as goal

pub returns-clause-gives : goal.returns-clause-gives
returns-clause-gives c = λ f.
    let built : is_built c.args.plan.now ≡ true = cc in
    all_tasks f _ _ _ c.args.plan.now built c.new-tasks.ensures (ok_is _ _ c.in_ok-push_stage.was (c.push_stage.ensures.adds f built))
    (ok_is _ _ c.in_ok-push_stages.was (c.push_stages.ensures.adds f built))
