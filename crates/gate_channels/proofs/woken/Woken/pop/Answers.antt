use Rattle.std.proofs.Common.{◌<◌, ◌≡◌, arith, IfSome, subst}
use Rattle.task_shape.specs.Numbers.{count}
use Rattle.gate_channels.specs.Queue.{Ready}
use Rattle.gate_channels.proofs.Distinct.{popped_rest, popped_front}
use Rattle.gate_channels.proofs.woken.Woken.pop.Goals as goal

pub invariant_of-self : goal.invariant_of-self
invariant_of-self c = (popped_rest _ _ _ _ c.pop_front.ensures.items c.self.invariant.0, omega (arith, c.self.invariant.1, c.pop_front.ensures.capacity))

pub returns-clause-some : goal.returns-clause-some
returns-clause-some c = subst (λ (r : Ready). IfSome c.pop_front.result (λ task. (task < r.room) × (count task c.pop_front.new.self.items ≡ 0))) c.self.view_is
    (popped_front c.self.inside.room _ _ _ c.pop_front.ensures.items c.self.invariant.0)
