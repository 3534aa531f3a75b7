use Rattle.finished_laws.proofs.Answers.{tells, stands, alike}
use Rattle.finished_laws.proofs.Laws.{allowed}
use Rattle.finished_laws.proofs.law.planned_answer_law.Goals as goal

pub returns : goal.returns
returns c = record {
  stand = λ h f tables n phases engine full p sound k s fed parts gives. stands h f tables n phases engine full p sound k s fed parts gives;
  tells = λ h f tables n phases engine full p sound k s fed parts gives. tells h f tables n phases engine full p sound k s fed parts gives;
  alike = λ h f tables n phases engine p wide one sound whole s run. alike h f tables n phases engine p wide one sound whole s run;
  allowed = allowed;
}
