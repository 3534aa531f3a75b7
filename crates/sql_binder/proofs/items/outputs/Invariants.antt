use Rattle.std.proofs.Common.{◌≡◌, drop}
use Rattle.sql_binder.specs.Items as spec
use Rattle.sql_binder.proofs.items.outputs.Given as goal

-- those so far, and the rest
abbrev pub invariant-loop-item : goal.invariant-loop-item
invariant-loop-item l = spec.outputs_after l.scope.columns l.scope.over l.done (drop l.item-index l.items) ≡ spec.outputs l.scope.columns l.scope.over l.items
