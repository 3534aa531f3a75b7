use Rattle.std.proofs.Common.{◌≡◌, take, map}
use Rattle.sql_tables.proofs.schema.declared_kinds.Given as goal

-- those so far
abbrev pub invariant-loop-column : goal.invariant-loop-column
invariant-loop-column l = l.kinds.items ≡ map (λ c. c.1) (take l.column-index l.columns)
