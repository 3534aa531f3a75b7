use Rattle.plan_task_laws.proofs.Laws.{splits}
use Rattle.plan_task_laws.proofs.Placed.{spillable}
use Rattle.plan_task_laws.proofs.Begun.{is_start, begins, heads, filled}
use Rattle.plan_task_laws.proofs.law.start_law.Goals as goal

pub returns : goal.returns
returns c = record { start = is_start; splits = splits; spillable = spillable; begins = begins; heads = heads; filled = filled }
