use Rattle.std.proofs.Common.{◌≡◌, drop}
use Rattle.sql_tables.specs.Tables as spec
use Rattle.sql_tables.proofs.statements.declares.Given as goal

-- none so far
abbrev pub invariant-loop-table : goal.invariant-loop-table
invariant-loop-table l = spec.declares l.name (drop l.table-index l.tables) ≡ spec.declares l.name l.tables
