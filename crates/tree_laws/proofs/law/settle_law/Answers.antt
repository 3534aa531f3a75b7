use Rattle.std.proofs.Common.{suc}
use Rattle.tree_laws.proofs.Settles
use Rattle.tree_laws.proofs.law.settle_law.Goals as goal

pub returns-clause-more : goal.returns-clause-more
returns-clause-more c = λ size n l k w h e. Settles.settle_more size n l k w h e

pub returns-clause-one : goal.returns-clause-one
returns-clause-one c = λ size k w v a b. Settles.settle_one size k w v a b

pub returns-clause-waits : goal.returns-clause-waits
returns-clause-waits c = λ size k w a. Settles.settled_turn size a.0 k w a.1

pub returns-clause-again : goal.returns-clause-again
returns-clause-again c = λ size k w a. Settles.settle_again size a.0 k w a.1

pub returns-clause-goes : goal.returns-clause-goes
returns-clause-goes c = λ size k rest w e a. (suc a.0, Settles.settle_goes size a.0 k rest w e a.1)

pub returns-clause-here : goal.returns-clause-here
returns-clause-here c = λ size w e. (1, Settles.settle_waits size w e)
