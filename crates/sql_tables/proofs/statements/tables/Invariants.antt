use Rattle.std.proofs.Common.{◌≡◌, drop}
use Rattle.sql_tables.specs.Tables as spec
use Rattle.sql_tables.proofs.statements.tables.Given as goal

-- those so far, and the rest
abbrev pub invariant-loop-at : goal.invariant-loop-at
invariant-loop-at l = spec.tables_after l.done.items (drop l.at l.statements) (drop l.at l.schemas) ≡ spec.tables l.statements l.schemas
