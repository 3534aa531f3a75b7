use Rattle.run_core.proofs.Sounds.{claim_over}
use Rattle.run_core.proofs.Ends.{over_told}
use Rattle.run_core.proofs.run.RunWork.claim.Goals as goal

pub returns-clause-answer : goal.returns-clause-answer
returns-clause-answer g c = claim_over c.claim_from.result _ _ _ _
    (λ h. (h.0, over_told (g.O.Opens.given c.self.inside.opening) c.claim_from.new.acts.items c.claim_from.new.frame.frame c.claim_from.ensures.holds.given c.claim_from.ensures.holds.run h.1))
    c.claim_from.ensures.answer
