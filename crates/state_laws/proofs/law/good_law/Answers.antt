use Rattle.state_laws.proofs.Laws.{good}
use Rattle.state_laws.proofs.law.good_law.Goals as goal

pub returns : goal.returns
returns c = good
