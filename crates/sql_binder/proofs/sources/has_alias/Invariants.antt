use Rattle.std.proofs.Common.{◌≡◌, Some, drop}
use Rattle.typed_exprs.specs.Scopes.{any_is, is_under}
use Rattle.sql_binder.proofs.sources.has_alias.Given as goal

-- none so far
abbrev pub invariant-loop-column : goal.invariant-loop-column
invariant-loop-column l = any_is (is_under (Some l.alias)) (drop l.column-index l.columns) ≡ any_is (is_under (Some l.alias)) l.columns
