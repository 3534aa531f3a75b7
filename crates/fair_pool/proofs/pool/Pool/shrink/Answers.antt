use Rattle.std.proofs.Common.{ℕ, ◌-◌, ◌≤◌, set, sum, sym, subst}
use Rattle.fair_pool.proofs.Sums.{shrunk_within}
use Rattle.fair_pool.proofs.pool.Pool.shrink.Goals as goal

pub hold-requires-clause-within : goal.hold-requires-clause-within
hold-requires-clause-within c = subst (λ (n : ℕ). sum (set c.args.self.now.held c.args.consumer (n - c.args.bytes)) ≤ c.args.self.now.limit) (sym c.held-held.ensures.held)
    (shrunk_within c.args.self.now c.args.consumer c.args.bytes c.held-held.ensures.within)
