use Rattle.std.proofs.Common.{◌≡◌, take, map}
use Rattle.sql_tables.proofs.schema.declared_names.Given as goal

-- those so far
abbrev pub invariant-loop-column : goal.invariant-loop-column
invariant-loop-column l = l.names.items ≡ map (λ c. c.0) (take l.column-index l.columns)
