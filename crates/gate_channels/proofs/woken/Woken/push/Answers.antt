use Rattle.std.proofs.Common.{◌<◌, ◌≡◌, length, arith, sym, subst}
use Rattle.task_shape.specs.Numbers.{count}
use Rattle.gate_channels.specs.Queue.{Ready}
use Rattle.gate_channels.proofs.Distinct.{fresh_room, push_distinct}
use Rattle.gate_channels.proofs.woken.Woken.push.Goals as goal

-- as many distinct tasks as there is room for
pub push_back_reserved-requires : goal.push_back_reserved-requires
push_back_reserved-requires c =
    let below : c.args.task < c.self.inside.room = subst (λ (r : Ready). c.args.task < r.room) (sym c.self.view_is) c.requires.below in
    let fresh : count c.args.task c.self.inside.queue.items ≡ 0 = subst (λ (r : Ready). count c.args.task r.tasks ≡ 0) (sym c.self.view_is) c.requires.fresh in
    let room : length c.self.inside.queue.items < c.self.inside.room = fresh_room _ c.args.task _ c.self.invariant.0 below fresh in
    omega (arith, c.self.invariant.1, c.self.inside.queue.ok.0)

pub invariant_of-self : goal.invariant_of-self
invariant_of-self c =
    let below : c.args.task < c.self.inside.room = subst (λ (r : Ready). c.args.task < r.room) (sym c.self.view_is) c.requires.below in
    let fresh : count c.args.task c.self.inside.queue.items ≡ 0 = subst (λ (r : Ready). count c.args.task r.tasks ≡ 0) (sym c.self.view_is) c.requires.fresh in
    (rw c.push_back_reserved.ensures.items (push_distinct _ c.args.task _ c.self.invariant.0 below fresh), omega (arith, c.self.invariant.1, c.push_back_reserved.ensures.capacity))
