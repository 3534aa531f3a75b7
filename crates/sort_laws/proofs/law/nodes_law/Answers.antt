use Rattle.sort_laws.proofs.Nodes.{sorts, merges, limits}
use Rattle.sort_laws.proofs.law.nodes_law.Goals as goal

pub returns-clause-sorts : goal.returns-clause-sorts
returns-clause-sorts c = λ h d. sorts

pub returns-clause-merges : goal.returns-clause-merges
returns-clause-merges c = λ h d. merges

pub returns-clause-limits : goal.returns-clause-limits
returns-clause-limits c = λ h d. limits
