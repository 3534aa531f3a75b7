use Rattle.std.proofs.Common.{◌≡◌, drop}
use Rattle.sql_binder.specs.Orders as spec
use Rattle.sql_binder.proofs.orders.number_in_items.Given as goal

-- none so far
abbrev pub invariant-loop-item : goal.invariant-loop-item
invariant-loop-item l = spec.number_from l.single.columns.now l.behind (drop l.item-index l.single.items.now) l.key ≡ spec.number_from l.single.columns.now 0 l.single.items.now l.key
