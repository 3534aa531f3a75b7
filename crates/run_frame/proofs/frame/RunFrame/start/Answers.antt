use Rattle.std.proofs.Common.{length, ap, ◌∙◌, refl}
use Rattle.gate_channels.specs.Group.{opened_gate}
use Rattle.fair_pool.specs.Share.{unreserved}
use Rattle.task_shape.specs.Shape.{Shape}
use Rattle.run_frame.proofs.Starts.{made_is, made_running, map_twice}
use Rattle.run_frame.proofs.frame.RunFrame.start.Goals as goal

pub count_senders-requires : goal.count_senders-requires
count_senders-requires g c = record { plan = c.requires.plan.plan }

pub invariant_of-result : goal.invariant_of-result
invariant_of-result g c =
    made_running c.args.shape c.args.limit _ c.in_ok-groups.groups.items c.in_ok-pool.pool c.in_ok-woken.woken.tasks c.in_ok-woken.woken.room c.in_ok-tasks.tasks c.in_ok-places.places.items c.in_ok-progress.progress.items c.requires.plan
    (c.in_ok-tasks.ensures ∙ (c.len.ensures ∙ ap (λ (p : Shape). length p.tasks) c.shape.view_is)) c.in_ok-senders.ensures
    (c.in_ok-groups.ensures.gates ∙ map_twice c.deref.result.now c.in_ok-senders.senders.items (λ s. s.items) (opened_gate {B = g.row.B.Denot}) c.deref.ensures.value) c.in_ok-groups.ensures.rooms
    (c.in_ok-pool.ensures.ok ∙ ap (unreserved c.args.limit) (c.as_slice.ensures ∙ ap (λ (p : Shape). p.spillable) c.shape.view_is))
    c.in_ok-woken.ensures.tasks c.in_ok-woken.ensures.room (c.in_ok-places.ensures.items_if_clones_equal (λ y e. e)) (c.in_ok-progress.ensures.items_if_clones_equal (λ y e. e))

pub returns-clause-frame : goal.returns-clause-frame
returns-clause-frame g c =
    made_is c.args.shape c.args.limit _ c.in_ok-groups.groups.items c.in_ok-pool.pool c.in_ok-woken.woken.tasks c.in_ok-tasks.tasks c.in_ok-places.places.items c.in_ok-progress.progress.items
    (c.in_ok-tasks.ensures ∙ (c.len.ensures ∙ ap (λ (p : Shape). length p.tasks) c.shape.view_is)) c.in_ok-senders.ensures
    (c.in_ok-groups.ensures.gates ∙ map_twice c.deref.result.now c.in_ok-senders.senders.items (λ s. s.items) (opened_gate {B = g.row.B.Denot}) c.deref.ensures.value)
    (c.in_ok-pool.ensures.ok ∙ ap (unreserved c.args.limit) (c.as_slice.ensures ∙ ap (λ (p : Shape). p.spillable) c.shape.view_is))
    c.in_ok-woken.ensures.tasks (c.in_ok-places.ensures.items_if_clones_equal (λ y e. e)) (c.in_ok-progress.ensures.items_if_clones_equal (λ y e. e))

pub returns-clause-shape : goal.returns-clause-shape
returns-clause-shape g c = refl
