use Rattle.history_laws.proofs.Laws
use Rattle.history_laws.proofs.law.held_step.Goals as goal

pub returns : goal.returns
returns g c = λ p r new e need shape owners recorded own step held. Laws.held_step p r new e need shape owners recorded own step held
