use Rattle.planned_laws.proofs.Finished.{is_finished}
use Rattle.planned_laws.proofs.planned.finished_law.Goals as goal

pub returns : goal.returns
returns c = is_finished
