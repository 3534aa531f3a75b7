use Rattle.tree_laws.proofs.Runs
use Rattle.tree_laws.proofs.law.run_law.Goals as goal

pub returns : goal.returns
returns c = λ p size steps limit start s entries shape starts replayed. Runs.reached p shape size steps limit start starts entries s replayed
