use Rattle.std.proofs.Common.{◌≡◌, [], drop}
use Rattle.sql_binder.specs.Grouped as spec
use Rattle.sql_binder.proofs.aggregates.calls.Given as goal

-- with what is left it is as with all
abbrev pub invariant-loop-item : goal.invariant-loop-item
invariant-loop-item l = spec.with_items l.columns l.found (drop l.item-index l.items) ≡ spec.with_items l.columns [] l.items
