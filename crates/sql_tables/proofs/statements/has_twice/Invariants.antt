use Rattle.std.proofs.Common.{◌≡◌, drop}
use Rattle.sql_tables.specs.Tables as spec
use Rattle.sql_tables.proofs.statements.has_twice.Given as goal

-- each once so far
abbrev pub invariant-loop-at : goal.invariant-loop-at
invariant-loop-at l = spec.has_twice (drop l.at l.names) ≡ spec.has_twice l.names
