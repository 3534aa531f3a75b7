use Rattle.sort_laws.proofs.Limits.{cut_first, cut_stretch, cut_keeps}
use Rattle.sort_laws.proofs.law.limit_law.Goals as goal

pub returns-clause-clean : goal.returns-clause-clean
returns-clause-clean c = cut_first

pub returns-clause-stretch : goal.returns-clause-stretch
returns-clause-stretch c = cut_stretch

pub returns-clause-keeps : goal.returns-clause-keeps
returns-clause-keeps c = cut_keeps
