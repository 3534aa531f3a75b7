use Rattle.history_laws.proofs.Laws
use Rattle.history_laws.proofs.law.recorded_opening.Goals as goal

pub returns : goal.returns
returns g c = λ p limit shape. Laws.recorded_opening p limit shape
