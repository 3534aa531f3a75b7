use Rattle.content_laws.proofs.Bags
use Rattle.content_laws.proofs.law.bag_law.Goals as goal

pub returns-clause-permuted : goal.returns-clause-permuted
returns-clause-permuted c = λ xs ys moved. Bags.permuted xs ys moved

pub returns-clause-passes : goal.returns-clause-passes
returns-clause-passes c = λ test xs ys same passed. Bags.passes test xs ys same passed
