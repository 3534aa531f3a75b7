use Rattle.content_laws.proofs.SenderKinds
use Rattle.content_laws.proofs.Orders
use Rattle.content_laws.proofs.Received
use Rattle.content_laws.proofs.law.senders_law.Goals as goal

pub returns-clause-batches : goal.returns-clause-batches
returns-clause-batches c = λ p u g to home there inside. SenderKinds.whole_sender p u g to home there inside

pub returns-clause-rows : goal.returns-clause-rows
returns-clause-rows c = λ p u g n number small some wide out. SenderKinds.hash_sender number p u g n small some wide out

pub returns-clause-numbered : goal.returns-clause-numbered
returns-clause-numbered c = λ number n at. SenderKinds.hash_only number n at

pub returns-clause-batches_in_order : goal.returns-clause-batches_in_order
returns-clause-batches_in_order c = λ to home. Orders.whole_in_order to home

pub returns-clause-rows_in_order : goal.returns-clause-rows_in_order
returns-clause-rows_in_order c = λ number n. Orders.hash_in_order number n

pub returns-clause-batches_have_rows : goal.returns-clause-batches_have_rows
returns-clause-batches_have_rows c = λ to. Received.whole_rows to

pub returns-clause-rows_have_rows : goal.returns-clause-rows_have_rows
returns-clause-rows_have_rows c = λ number n. Received.hash_rows number n
