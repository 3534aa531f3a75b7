use Rattle.std.proofs.Common.{ap, ◌∙◌}
use Rattle.fair_pool.specs.Share.{Pool}
use Rattle.task_shape.specs.Shape.{TaskShape, task_at}
use Rattle.run_frame.proofs.Finishes.{leaving_ends, leaving_frame}
use Rattle.run_frame.proofs.Releases.{released_spillable}
use Rattle.run_frame.proofs.finish.leave.Goals as goal

pub end_as_sender-requires : goal.end_as_sender-requires
end_as_sender-requires g c =
    let e = c.ended.view_is ∙ c.task_of-ended.ensures in
    record {
      ends = leaving_ends c.args.shape.now c.args.task c.args.groups.now.items c.drop_receivers.new.groups.items c.args.woken.now c.drop_receivers.new.woken c.args.pool.now c.requires.ending
          c.as_slice.result.now c.as_slice-2.result.now c.ended.inside.sends (c.as_slice.ensures ∙ ap (λ (s : TaskShape). s.receives) e) (c.as_slice-2.ensures ∙ ap (λ (s : TaskShape). s.targets) e) (ap (λ (s : TaskShape). s.sends) e)
          c.drop_receivers.ensures.frame c.drop_receivers.ensures.rooms c.drop_receivers.ensures.queue;
    }

pub returns-clause-frame : goal.returns-clause-frame
returns-clause-frame g c =
    let e = c.ended.view_is ∙ c.task_of-ended.ensures in
    leaving_frame (task_at c.args.shape.now c.args.task) c.args.groups.now.items c.drop_receivers.new.groups.items c.end_as_sender.new.groups.items c.args.woken.now.tasks c.drop_receivers.new.woken.tasks c.end_as_sender.new.woken.tasks c.args.pool.now c.release.new.pool
    c.as_slice.result.now c.as_slice-2.result.now c.as_slice-3.result.now c.ended.inside.sends (c.as_slice.ensures ∙ ap (λ (s : TaskShape). s.receives) e) (c.as_slice-2.ensures ∙ ap (λ (s : TaskShape). s.targets) e) (c.as_slice-3.ensures ∙ ap (λ (s : TaskShape). s.consumers) e) (ap (λ (s : TaskShape). s.sends) e)
    c.drop_receivers.ensures.frame c.end_as_sender.ensures.frame c.release.ensures.pool

pub returns-clause-spillable : goal.returns-clause-spillable
returns-clause-spillable g c = ap (λ (x : Pool). x.spillable) c.release.ensures.pool ∙ released_spillable c.as_slice-3.result.now c.args.pool.now
