use Rattle.tree_laws.proofs.Polls
use Rattle.tree_laws.proofs.Wholes
use Rattle.tree_laws.proofs.Subtrees
use Rattle.tree_laws.proofs.law.tree_law.Goals as goal

pub returns-clause-polled : goal.returns-clause-polled
returns-clause-polled c = λ size past t linked. Polls.polled size past t linked

pub returns-clause-whole : goal.returns-clause-whole
returns-clause-whole c = λ size past full t linked flow. Wholes.whole_of size past full t linked flow

pub returns-clause-linked : goal.returns-clause-linked
returns-clause-linked c = λ size past t x linked inside. Subtrees.linked_inside size past x t linked inside

pub returns-clause-fronts : goal.returns-clause-fronts
returns-clause-fronts c = λ size past full t x linked flow inside. Subtrees.fronts_inside size past full x t linked flow inside
