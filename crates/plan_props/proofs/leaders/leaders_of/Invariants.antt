use Rattle.std.proofs.Common.{ℕ, ◌≡◌, ◌<◌, length, get_or, drop}
use Rattle.plan_props.specs.Same.{leader}
use Rattle.plan_props.proofs.leaders.leaders_of.Given as goal

abbrev pub invariant-loop-at : goal.invariant-loop-at
invariant-loop-at l = record { len : length l.table.items ≡ l.width; leaders : (k : ℕ) → k < l.width → get_or l.table.items k 0 ≡ leader (drop l.at l.pairs) k }
