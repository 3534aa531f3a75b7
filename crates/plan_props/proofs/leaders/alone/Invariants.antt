use Rattle.std.proofs.Common.{ℕ, ◌≡◌, ◌<◌, length, get_or}
use Rattle.plan_props.proofs.leaders.alone.Given as goal

abbrev pub invariant-loop-column : goal.invariant-loop-column
invariant-loop-column l = record { len : length l.table.items ≡ l.column; at : (k : ℕ) → k < l.column → get_or l.table.items k 0 ≡ k }
