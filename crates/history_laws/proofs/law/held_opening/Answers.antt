use Rattle.history_laws.proofs.Laws
use Rattle.history_laws.proofs.law.held_opening.Goals as goal

pub returns : goal.returns
returns g c = λ p limit. Laws.held_opening p limit
