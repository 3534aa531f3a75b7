use Rattle.std.proofs.Common.{◌≡◌, drop}
use Rattle.sql_binder.specs.Orders as spec
use Rattle.sql_binder.specs.Each.{each_after}
use Rattle.std.specs.Prelude.{option_map}
use Rattle.sql_binder.proofs.orders.order.Given as goal

-- those so far, and the rest
abbrev pub invariant-loop-key : goal.invariant-loop-key
invariant-loop-key l = each_after (spec.key_of l.names (option_map spec.viewed l.single)) l.done.items (drop l.key-index l.keys) ≡ spec.order l.names (option_map spec.viewed l.single) l.keys
