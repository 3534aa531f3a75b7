use Rattle.phase_laws.proofs.Tables.{first_table, second_table, one_finished}
use Rattle.phase_laws.proofs.law.tables_law.Goals as goal

pub returns-clause-first : goal.returns-clause-first
returns-clause-first c = first_table

pub returns-clause-second : goal.returns-clause-second
returns-clause-second c = second_table

pub returns-clause-one : goal.returns-clause-one
returns-clause-one c = one_finished
