use Rattle.std.proofs.Common.{eqb, ap, sym, ◌∙◌}
use Rattle.core_frame.specs.Step.{wake_all}
use Rattle.run_frame.proofs.Kept.{none_left}
use Rattle.run_frame.proofs.frame.RunFrame.is_finished.Goals as goal

pub returns : goal.returns
returns g c = rw (← c.self.view_is) (ap (λ n. eqb n 0) c.self.invariant.unended ∙ sym (none_left (wake_all c.self.inside.woken.tasks c.self.inside.places.items)))
