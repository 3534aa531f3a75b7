use Rattle.node_laws.proofs.Tested.{tested}
use Rattle.node_laws.proofs.law.range_test_law.Goals as goal

pub returns : goal.returns
returns c = tested
