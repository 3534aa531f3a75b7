use Rattle.tree_laws.proofs.Batches
use Rattle.tree_laws.proofs.law.batches_law.Goals as goal

pub returns-clause-given : goal.returns-clause-given
returns-clause-given c = λ size t rows rest some asked. Batches.gives_rows size t rows rest some asked

pub returns-clause-sent : goal.returns-clause-sent
returns-clause-sent c = λ p size steps limit start s entries shape starts some fills replayed t. Batches.filled p size steps limit start s entries shape starts some fills replayed t
