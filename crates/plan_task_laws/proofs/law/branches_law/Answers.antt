use Rattle.plan_task_laws.proofs.Widths.{width_counts, branches}
use Rattle.plan_task_laws.proofs.law.branches_law.Goals as goal

pub returns : goal.returns
returns c = record { branch = branches; parts = width_counts }
