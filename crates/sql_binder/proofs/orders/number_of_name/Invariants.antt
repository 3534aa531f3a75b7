use Rattle.std.proofs.Common.{◌≡◌, drop}
use Rattle.sql_binder.specs.Orders as spec
use Rattle.sql_binder.proofs.orders.number_of_name.Given as goal

-- none so far
abbrev pub invariant-loop-number : goal.invariant-loop-number
invariant-loop-number l = spec.named_from l.number l.name (drop l.number l.names) ≡ spec.named_from l.first l.name (drop l.first l.names)
