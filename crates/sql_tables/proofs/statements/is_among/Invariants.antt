use Rattle.std.proofs.Common.{◌≡◌, drop}
use Rattle.sql_tables.specs.Tables as spec
use Rattle.sql_tables.proofs.statements.is_among.Given as goal

-- none so far
abbrev pub invariant-loop-other : goal.invariant-loop-other
invariant-loop-other l = spec.is_among l.name (drop l.other-index l.names) ≡ spec.is_among l.name l.names
