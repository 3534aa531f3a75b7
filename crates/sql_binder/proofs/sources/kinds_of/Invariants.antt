use Rattle.std.proofs.Common.{◌≡◌, take}
use Rattle.sql_binder.specs.Sources as spec
use Rattle.sql_binder.proofs.sources.kinds_of.Given as goal

-- those so far
abbrev pub invariant-loop-column : goal.invariant-loop-column
invariant-loop-column l = l.kinds ≡ spec.kinds (take l.column-index l.columns)
