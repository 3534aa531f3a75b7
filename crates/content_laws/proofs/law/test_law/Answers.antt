use Rattle.content_laws.proofs.Exchanges
use Rattle.content_laws.proofs.law.test_law.Goals as goal

pub returns-clause-all : goal.returns-clause-all
returns-clause-all c = λ p size limit start s entries deal full shape starts reached senders all test g each. Exchanges.passed_all p shape size limit start s entries starts reached deal senders full all test g each

pub returns-clause-at : goal.returns-clause-at
returns-clause-at c = λ p size limit start s entries deal full shape starts reached senders all test g c inside each. Exchanges.passed_at p shape size limit start s entries starts reached deal senders full all test g c inside each

pub returns-clause-gave : goal.returns-clause-gave
returns-clause-gave c = λ p size limit start s entries deal full shape starts reached senders all test u passed. Exchanges.passed_gave p shape size limit start s entries starts reached deal senders full all test u passed
