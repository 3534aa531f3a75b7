use Rattle.std.proofs.Common.{Some}
use Rattle.history_laws.specs.Histories.{begun}
use Rattle.history_laws.proofs.Laws
use Rattle.history_laws.proofs.law.histories_law.Goals as goal

pub returns-clause-contents : goal.returns-clause-contents
returns-clause-contents g c = λ p limit steps r shape own reached. (Laws.recorded p limit steps r shape own reached).told

pub returns-clause-frames : goal.returns-clause-frames
returns-clause-frames g c = λ p limit steps. Laws.same_frames p steps (Some (begun p limit))

pub returns-clause-reserved : goal.returns-clause-reserved
returns-clause-reserved g c = λ p limit steps r shape owners own reached. Laws.reserved p limit steps r shape owners own reached
