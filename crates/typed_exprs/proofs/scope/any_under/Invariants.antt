use Rattle.std.proofs.Common.{◌≡◌, drop}
use Rattle.typed_exprs.specs.Scopes as spec
use Rattle.typed_exprs.proofs.scope.any_under.Given as goal

-- none so far
abbrev pub invariant-loop-column : goal.invariant-loop-column
invariant-loop-column l = spec.any_is (spec.is_under l.alias) (drop l.column-index l.columns) ≡ spec.any_is (spec.is_under l.alias) l.columns
