use Rattle.std.proofs.Common.{ℕ, ◌≡◌, ◌<◌, ◌≤◌, get_or}
use Rattle.plan_props.specs.Leaders.{replaced}
use Rattle.plan_props.proofs.leaders.relead.Given as goal

abbrev pub invariant-loop-leader : goal.invariant-loop-leader
invariant-loop-leader l = record { done : (k : ℕ) → k < l.leader-index → get_or l.table k 0 ≡ replaced l.from l.to (get_or l.initial.table k 0); rest : (k : ℕ) → l.leader-index ≤ k → get_or l.table k 0 ≡ get_or l.initial.table k 0 }
