use Rattle.std.proofs.Common.{◌≡◌, ◌++◌, drop}
use Rattle.sql_tables.specs.Tables as spec
use Rattle.sql_tables.proofs.statements.columns_under.Given as goal

-- those so far, and the rest
abbrev pub invariant-loop-at : goal.invariant-loop-at
invariant-loop-at l = l.columns.items ++ spec.columns_under l.alias (drop l.at l.names) (drop l.at l.kinds) ≡ spec.columns_under l.alias l.names l.kinds
