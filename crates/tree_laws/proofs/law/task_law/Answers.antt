use Rattle.tree_laws.proofs.Turns
use Rattle.tree_laws.proofs.law.task_law.Goals as goal

pub returns : goal.returns
returns c = λ size steps past k w task settled. Turns.settle_keeps size steps past k w task settled
