use Rattle.join_laws.proofs.Steps.{starts, wants, completes, accepts, ends, flushes, gives_some}
use Rattle.join_laws.proofs.law.state_law.Goals as goal

pub returns-clause-start : goal.returns-clause-start
returns-clause-start c = starts

pub returns-clause-wanted : goal.returns-clause-wanted
returns-clause-wanted c = wants

pub returns-clause-complete : goal.returns-clause-complete
returns-clause-complete c = completes

pub returns-clause-accept : goal.returns-clause-accept
returns-clause-accept c = accepts

pub returns-clause-end : goal.returns-clause-end
returns-clause-end c = ends

pub returns-clause-flush : goal.returns-clause-flush
returns-clause-flush c = flushes

pub returns-clause-give : goal.returns-clause-give
returns-clause-give c = gives_some
