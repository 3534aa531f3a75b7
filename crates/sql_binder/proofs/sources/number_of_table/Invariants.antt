use Rattle.std.proofs.Common.{◌≡◌, drop}
use Rattle.sql_binder.specs.Sources as spec
use Rattle.sql_binder.proofs.sources.number_of_table.Given as goal

-- none so far
abbrev pub invariant-loop-number : goal.invariant-loop-number
invariant-loop-number l = spec.number_from l.number (drop l.number l.tables) l.name ≡ spec.number_of_table l.tables l.name
