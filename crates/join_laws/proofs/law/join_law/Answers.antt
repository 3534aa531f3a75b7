use Rattle.join_laws.proofs.Core.{one_join}
use Rattle.join_laws.proofs.Parts.{parts_alike, parts_same, parts_faults}
use Rattle.join_laws.proofs.Placed.{placed, single}
use Rattle.join_laws.proofs.Fits.{rows_fit, parts_are}
use Rattle.join_laws.proofs.law.join_law.Goals as goal

pub returns-clause-one : goal.returns-clause-one
returns-clause-one c = λ kind left_width right_width keys rest ls rs w. one_join w kind left_width right_width keys rest ls rs

pub returns-clause-parts : goal.returns-clause-parts
returns-clause-parts c = parts_alike

pub returns-clause-same : goal.returns-clause-same
returns-clause-same c = parts_same

pub returns-clause-faults : goal.returns-clause-faults
returns-clause-faults c = parts_faults

pub returns-clause-placed : goal.returns-clause-placed
returns-clause-placed c = placed

pub returns-clause-rows : goal.returns-clause-rows
returns-clause-rows c = parts_are

pub returns-clause-kinds : goal.returns-clause-kinds
returns-clause-kinds c = rows_fit

pub returns-clause-single : goal.returns-clause-single
returns-clause-single c = single

pub returns-clause-node : goal.returns-clause-node
returns-clause-node c = λ h left right kind keys rest. parts_are kind left.width right.width keys rest
