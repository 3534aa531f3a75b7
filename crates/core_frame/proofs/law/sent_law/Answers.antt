use Rattle.std.proofs.Common.{subst, IfSome, Some}
use Rattle.std.specs.List.{AllByRecursion}
use Rattle.core_frame.specs.Frame.{opening}
use Rattle.core_frame.specs.Sent.{Passes, ChannelsFit}
use Rattle.core_frame.proofs.Sent.{step_fits, replay_fits, opening_fits}
use Rattle.core_frame.proofs.law.sent_law.Goals as goal

pub returns-clause-step : goal.returns-clause-step
returns-clause-step g c = λ test p f new e need h n s. subst (λ o. IfSome o (ChannelsFit (Passes test))) s (step_fits (Passes test) p f e need n h)

pub returns-clause-channels : goal.returns-clause-channels
returns-clause-channels g c = λ test p limit steps f n s.
    subst (λ o. IfSome o (ChannelsFit (Passes test))) s (replay_fits (Passes test) p (Some (opening p limit)) steps n (opening_fits (Passes test) p limit))

pub returns-clause-received : goal.returns-clause-received
returns-clause-received g c = λ test f a d b rest h e. (subst (AllByRecursion (Passes test a d)) e (h a d)).0
