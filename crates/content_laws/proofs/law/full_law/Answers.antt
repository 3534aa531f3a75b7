use Rattle.content_laws.proofs.Flows
use Rattle.content_laws.proofs.law.full_law.Goals as goal

pub returns-clause-exist : goal.returns-clause-exist
returns-clause-exist c = λ p size limit start s entries deal shape starts reached. Flows.exist p shape size limit start s entries starts reached deal

pub returns-clause-flow : goal.returns-clause-flow
returns-clause-flow c = λ p size limit start s entries deal full shape starts reached senders all t. Flows.flows p shape size limit start s entries starts reached deal senders full all t

pub returns-clause-whole : goal.returns-clause-whole
returns-clause-whole c = λ p size limit start s entries deal full shape starts reached senders all t. Flows.wholes p shape size limit start s entries starts reached deal senders full all t

pub returns-clause-fronts : goal.returns-clause-fronts
returns-clause-fronts c = λ p size limit start s entries deal full shape starts reached senders all t x inside. Flows.subtrees p shape size limit start s entries starts reached deal senders full all t x inside
