use Rattle.std.proofs.Common.{◌≡◌, drop}
use Rattle.typed_exprs.specs.Literals.{has_point}
use Rattle.sql_binder.proofs.orders.has_point.Given as goal

-- none so far
abbrev pub invariant-loop-byte : goal.invariant-loop-byte
invariant-loop-byte l = has_point (drop l.byte-index l.text) ≡ has_point l.text
