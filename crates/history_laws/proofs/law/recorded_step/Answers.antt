use Rattle.history_laws.proofs.Laws
use Rattle.history_laws.proofs.law.recorded_step.Goals as goal

pub returns : goal.returns
returns g c = λ p r new e need shape recorded own step. Laws.recorded_step p r new e need shape recorded own step
