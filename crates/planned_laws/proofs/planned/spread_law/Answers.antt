use Rattle.planned_laws.proofs.Exchanges.{is_spread}
use Rattle.planned_laws.proofs.planned.spread_law.Goals as goal

pub returns : goal.returns
returns c = is_spread
