use Rattle.std.proofs.Common.{subst, IfSome, Some}
use Rattle.core_frame.specs.Sent.{Passes}
use Rattle.history_laws.specs.Histories.{begun}
use Rattle.history_laws.specs.Taken.{RunFits}
use Rattle.history_laws.proofs.Taken.{run_step_fits, run_fits, begun_fits}
use Rattle.history_laws.proofs.law.taken_law.Goals as goal

pub returns-clause-step : goal.returns-clause-step
returns-clause-step g c = λ test p r new e need h n s. subst (λ o. IfSome o (RunFits (Passes test))) s (run_step_fits (Passes test) p r e need n h)

pub returns-clause-runs : goal.returns-clause-runs
returns-clause-runs g c = λ test p limit steps r n s.
    subst (λ o. IfSome o (RunFits (Passes test))) s (run_fits (Passes test) p (Some (begun p limit)) steps n (begun_fits (Passes test) p limit))
