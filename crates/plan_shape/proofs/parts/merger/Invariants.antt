use Rattle.std.proofs.Common.{ℕ, ◌≡◌, ◌++◌, map, drop}
use Rattle.plan_shape.proofs.parts.merger.Given as goal

abbrev pub invariant-loop-channel : goal.invariant-loop-channel
invariant-loop-channel l = l.receives ++ map (λ (c : ℕ). (l.group, c)) (drop l.channel-index l.channel-items) ≡ map (λ (c : ℕ). (l.group, c)) l.channel-items
