use Rattle.tree_laws.proofs.Held
use Rattle.tree_laws.proofs.law.held_law.Goals as goal

pub returns-clause-polled : goal.returns-clause-polled
returns-clause-polled c = λ size past t linked apart holds. Held.poll_holds size past t linked apart holds

pub returns-clause-settled : goal.returns-clause-settled
returns-clause-settled c = λ size steps past k w task apart holds settled. Held.settle_holds size steps past k w task apart holds settled

pub returns-clause-reached : goal.returns-clause-reached
returns-clause-reached c = λ p size steps limit start s entries shape starts begins replayed t. Held.reached_holds p shape size steps limit start s entries starts begins replayed t

pub returns-clause-pooled : goal.returns-clause-pooled
returns-clause-pooled c = λ p size steps limit start s entries shape own starts begins replayed t unfinished. Held.pooled p shape size steps limit start s entries starts begins replayed own t unfinished

pub returns-clause-freed : goal.returns-clause-freed
returns-clause-freed c = λ p size steps limit start s entries shape own starts begins replayed t turns w unfinished settled. Held.frees p shape size steps limit start s entries starts begins replayed own t turns w unfinished settled
