use Rattle.sort_laws.proofs.Roots.{limit_root, whole_root, sort_root, sort_above}
use Rattle.sort_laws.proofs.law.root_law.Goals as goal

pub returns-clause-limit : goal.returns-clause-limit
returns-clause-limit c = limit_root

pub returns-clause-all : goal.returns-clause-all
returns-clause-all c = whole_root

pub returns-clause-sort : goal.returns-clause-sort
returns-clause-sort c = sort_root

pub returns-clause-above : goal.returns-clause-above
returns-clause-above c = sort_above
