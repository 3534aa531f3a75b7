use Rattle.std.proofs.Common.{ap, ◌∙◌}
use Rattle.task_shape.specs.Shape.{Shape}
use Rattle.run_frame.specs.Counts.{zeros_for}
use Rattle.run_frame.proofs.Starts.{counts_none, counts_more, counted_inside, item_task}
use Rattle.run_frame.proofs.start.count_senders.Goals as goal

pub loop-task-init : goal.loop-task-init
loop-task-init c = record { counts = counts_none c.args.shape.now _ (c.in_ok-senders.ensures ∙ ap zeros_for (c.as_slice.ensures ∙ ap (λ (p : Shape). p.widths) c.shape.view_is)) }

pub count_task-requires : goal.count_task-requires
count_task-requires c =
    let t = item_task c.args.shape.now c.as_slice-tasks.result.now c.loop-task.task-index c.task-item.result (c.as_slice-tasks.ensures ∙ ap (λ (p : Shape). p.tasks) c.shape.view_is) c.loop-task-test.true c.task-item.is in
    record { inside = λ g k s h i. counted_inside c.args.shape.now c.loop-task.task-index c.task-item.result _ c.requires.plan t c.loop-task.invariant.counts g k s h }

pub loop-task-preserved : goal.loop-task-preserved
loop-task-preserved c =
    let t = item_task c.args.shape.now c.as_slice-tasks.result.now c.loop-task.task-index c.task-item.result (c.as_slice-tasks.ensures ∙ ap (λ (p : Shape). p.tasks) c.shape.view_is) c.loop-task-test.true c.task-item.is in
    record { counts = counts_more c.args.shape.now c.loop-task.task-index c.task-item.result _ _ c.requires.plan t c.loop-task.invariant.counts c.in_ok-count_task.ensures }
