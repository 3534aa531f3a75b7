use Rattle.content_laws.proofs.Received
use Rattle.content_laws.proofs.law.received_law.Goals as goal

pub returns-clause-took : goal.returns-clause-took
returns-clause-took c = λ p size limit start s entries shape reached rows t g d receives. Received.took_rows p shape size limit start s entries reached rows t g d receives

pub returns-clause-left : goal.returns-clause-left
returns-clause-left c = λ p size limit start s entries shape reached rows t g d receives live. Received.left_rows p shape size limit start s entries reached rows t g d receives live
