use Rattle.std.proofs.Common.{ℕ, ◌≡◌, [], ◌∷◌, ◌++◌, map, drop}
use Rattle.plan_shape.proofs.layout.to_own.Given as goal

abbrev pub invariant-loop-channel : goal.invariant-loop-channel
invariant-loop-channel l = l.all ++ map (λ (c : ℕ). c ∷ []) (drop l.channel-index l.channel-items) ≡ map (λ (c : ℕ). c ∷ []) l.channel-items
