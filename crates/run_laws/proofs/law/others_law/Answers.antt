use Rattle.std.proofs.Common.{get_or, false, refl, subst, Some, IfSome}
use Rattle.history_laws.specs.Histories.{past_of}
use Rattle.run_laws.proofs.Others.{Has, RunHas, has_lawful, replay_has, run_replay_has}
use Rattle.run_laws.proofs.law.others_law.Goals as goal

pub returns-clause-frame : goal.returns-clause-frame
returns-clause-frame g c = λ p f new steps w t lawful at none leads.
    let k : Has w t (get_or f.progress t false) new = subst (λ o. IfSome o (Has w t (get_or f.progress t false))) leads (replay_has p w t _ (Some f) steps none (has_lawful p f w t lawful at)) in
    record { place = k.place; progress = k.progress }

pub returns-clause-run : goal.returns-clause-run
returns-clause-run g c = λ p r new steps w t lawful at none leads.
    let k : RunHas p w t (get_or r.frame.progress t false) (past_of r.pasts t) new =
    subst (λ o. IfSome o (RunHas p w t (get_or r.frame.progress t false) (past_of r.pasts t))) leads
    (run_replay_has p w t _ _ (Some r) steps none (record { frame = has_lawful p r.frame w t lawful at; past = refl })) in
    record { frame = record { place = k.frame.place; progress = k.frame.progress }; past = k.past }
