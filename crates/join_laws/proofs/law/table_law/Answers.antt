use Rattle.join_laws.proofs.Found.{matches_are, matches_within, pairs_are, entered-append}
use Rattle.join_laws.proofs.Marks.{marks_are, marks-length, lefts_are}
use Rattle.join_laws.proofs.law.table_law.Goals as goal

pub returns-clause-found : goal.returns-clause-found
returns-clause-found c = matches_are

pub returns-clause-pairs : goal.returns-clause-pairs
returns-clause-pairs c = pairs_are

pub returns-clause-marks : goal.returns-clause-marks
returns-clause-marks c = marks_are

pub returns-clause-lefts : goal.returns-clause-lefts
returns-clause-lefts c = lefts_are

pub returns-clause-grown : goal.returns-clause-grown
returns-clause-grown c = entered-append

pub returns-clause-within : goal.returns-clause-within
returns-clause-within c = λ keys rest ls rs r. (matches_within keys ls r, marks-length keys rest ls rs)
