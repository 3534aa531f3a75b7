use Rattle.node_laws.proofs.Wholes.{needs_met}
use Rattle.node_laws.proofs.law.needs_law.Goals as goal

pub returns : goal.returns
returns c = needs_met
