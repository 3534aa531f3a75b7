use Rattle.std.proofs.Common.{◌≡◌, drop}
use Rattle.sql_tables.specs.Tables as spec
use Rattle.sql_tables.proofs.statements.has_other_option.Given as goal

-- none so far
abbrev pub invariant-loop-option : goal.invariant-loop-option
invariant-loop-option l = spec.has_other_option (drop l.option-index l.options) ≡ spec.has_other_option l.options
