use Rattle.std.proofs.Common.{◌≡◌, length, sym, subst, ◌∙◌}
use Rattle.core_frame.specs.Good.{IsGood}
use Rattle.core_frame.specs.Lawful.{IsLawful}
use Rattle.core_frame.proofs.Places.{length_wake_all}
use Rattle.core_frame.proofs.Sound.{sound, lawful_goes_on}
use Rattle.run_frame.specs.Running.{Running, IsRunnable}
use Rattle.run_frame.proofs.frame.RunFrame.vouch.Goals as goal

pub returns-clause-plan : goal.returns-clause-plan
returns-clause-plan g c = subst (λ (r : Running g.row.B.Denot). IsRunnable r.shape) c.self.view_is c.self.invariant.plan

pub returns-clause-lawful : goal.returns-clause-lawful
returns-clause-lawful g c = subst (λ (r : Running g.row.B.Denot). IsLawful r.shape r.frame) c.self.view_is c.self.invariant.lawful

pub returns-clause-good : goal.returns-clause-good
returns-clause-good g c = subst (λ (r : Running g.row.B.Denot). IsGood r.shape r.frame) c.self.view_is
    (record { sound = sound _ _ c.self.invariant.lawful; goes_on = lawful_goes_on _ _ c.self.invariant.plan.plan c.self.invariant.lawful })

pub returns-clause-marks : goal.returns-clause-marks
returns-clause-marks g c = subst (λ (r : Running g.row.B.Denot). length r.frame.progress ≡ length r.frame.places) c.self.view_is
    (c.self.invariant.long ∙ sym (length_wake_all c.self.inside.woken.tasks c.self.inside.places.items))
