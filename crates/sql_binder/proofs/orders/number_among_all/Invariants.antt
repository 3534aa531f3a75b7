use Rattle.std.proofs.Common.{◌≡◌}
use Rattle.sql_binder.proofs.AllGiven.{first_column}
use Rattle.sql_binder.proofs.orders.number_among_all.Given as goal

-- none so far
abbrev pub invariant-loop-number : goal.invariant-loop-number
invariant-loop-number l = first_column l.columns l.number l.key ≡ first_column l.columns 0 l.key
