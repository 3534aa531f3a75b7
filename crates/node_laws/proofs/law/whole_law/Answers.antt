use Rattle.node_laws.proofs.Wholes.{node_stands, plan_stands, begun_stands}
use Rattle.node_laws.proofs.law.whole_law.Goals as goal

pub returns : goal.returns
returns c = record { node = node_stands; plan = plan_stands; begun = begun_stands }
