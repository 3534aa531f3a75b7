use Rattle.phase_laws.proofs.Items.{two_phases}
use Rattle.phase_laws.proofs.Distinct.{distinct_is}
use Rattle.phase_laws.proofs.PhaseKinds.{phase_fits}
use Rattle.phase_laws.proofs.Faults.{faults_kept}
use Rattle.phase_laws.proofs.Orders.{final_order}
use Rattle.phase_laws.proofs.law.two_phases_law.Goals as goal

pub returns-clause-grouped : goal.returns-clause-grouped
returns-clause-grouped c = two_phases

pub returns-clause-faults : goal.returns-clause-faults
returns-clause-faults c = faults_kept

pub returns-clause-arranged : goal.returns-clause-arranged
returns-clause-arranged c = final_order

pub returns-clause-kinds : goal.returns-clause-kinds
returns-clause-kinds c = phase_fits

pub returns-clause-no_calls : goal.returns-clause-no_calls
returns-clause-no_calls c = distinct_is
