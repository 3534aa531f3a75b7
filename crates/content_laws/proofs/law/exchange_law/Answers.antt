use Rattle.content_laws.proofs.Exchanges
use Rattle.content_laws.proofs.law.exchange_law.Goals as goal

pub returns-clause-exchanged : goal.returns-clause-exchanged
returns-clause-exchanged c = λ p size limit start s entries deal full shape starts reached senders all w g. Exchanges.exchanged p shape size limit start s entries starts reached deal senders full all w g

pub returns-clause-single : goal.returns-clause-single
returns-clause-single c = λ p size limit start s entries deal full shape starts reached senders all u g c one. Exchanges.only_sender p shape size limit start s entries starts reached deal senders full all u g c one

pub returns-clause-shared : goal.returns-clause-shared
returns-clause-shared c = λ p size limit start s entries deal full shape starts reached senders all g. Exchanges.shared p shape size limit start s entries starts reached deal senders full all g

pub returns-clause-ordered : goal.returns-clause-ordered
returns-clause-ordered c = λ p size limit start s entries deal full shape starts reached senders all u g lone at inside. Exchanges.lone_sender p shape size limit start s entries starts reached deal senders full all u g lone at inside
