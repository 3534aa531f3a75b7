use Rattle.std.proofs.Common.{ℕ, ◌<◌, ◌≤◌, ◌^◌}
use Rattle.plan_props.specs.Leaders.{pair_at}
use Rattle.plan_props.proofs.leaders.width_of.Given as goal

abbrev pub invariant-loop-pair : goal.invariant-loop-pair
invariant-loop-pair l = record { small : l.width ≤ 2 ^ 32; left : (k : ℕ) → k < l.pair-index → (pair_at l.pairs k).0 < l.width; right : (k : ℕ) → k < l.pair-index → (pair_at l.pairs k).1 < l.width }
