use Rattle.std.proofs.Common.{Some}
use Rattle.tree_laws.proofs.Settles
use Rattle.tree_laws.proofs.law.leads_law.Goals as goal

pub returns-clause-more : goal.returns-clause-more
returns-clause-more c = λ p size n l start s entries h e. Settles.replay_more p size n l (Some start) entries s h e

pub returns-clause-one : goal.returns-clause-one
returns-clause-one c = λ p size start s new entries a b. Settles.leads_one p size start s new entries a b

pub returns-clause-on : goal.returns-clause-on
returns-clause-on c = λ p size start s new entries more a b. Settles.leads_on p size start s new entries more a b

pub returns-clause-front : goal.returns-clause-front
returns-clause-front c = λ p size start new entries more a. Settles.leads_front p size start new entries more a
