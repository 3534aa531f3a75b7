use Rattle.std.proofs.Common.{[], ◌∷◌, ◌++◌, ap, sym, ◌∙◌, arith}
use Rattle.task_shape.specs.Numbers.{count}
use Rattle.run_frame.proofs.Starts.{count_below_all, tabulate_more}
use Rattle.run_frame.proofs.start.all_woken.Goals as goal

pub push-requires-clause-fresh : goal.push-requires-clause-fresh
push-requires-clause-fresh c = ap (count c.loop-task.task) c.loop-task.invariant.tasks ∙ count_below_all c.loop-task.task c.loop-task.task (omega arith)

pub loop-task-preserved : goal.loop-task-preserved
loop-task-preserved c = record {
  tasks = c.push.ensures.tasks ∙ (ap (λ ts. ts ++ c.loop-task.task ∷ []) c.loop-task.invariant.tasks ∙ sym (tabulate_more c.loop-task.task (λ t. t)));
  room = c.push.ensures.room ∙ c.loop-task.invariant.room;
}
