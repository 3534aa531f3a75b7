use Rattle.planned_laws.proofs.Limits.{on_top, without}
use Rattle.planned_laws.proofs.planned.limit_law.Goals as goal

pub returns : goal.returns
returns c = record { on_top = on_top; without = without }
