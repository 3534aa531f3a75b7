use Rattle.plan_task_laws.proofs.Operators.{are_operators}
use Rattle.plan_task_laws.proofs.law.operators_law.Goals as goal

pub returns : goal.returns
returns c = are_operators
