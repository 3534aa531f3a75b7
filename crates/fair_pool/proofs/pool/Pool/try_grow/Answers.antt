use Rattle.std.proofs.Common.{ℕ, ◌+◌, ◌≤◌, set, sum, sym, subst, arith}
use Rattle.fair_pool.specs.Share.{held_by, share_of}
use Rattle.fair_pool.proofs.Sums.{grown_within}
use Rattle.fair_pool.proofs.pool.Pool.try_grow.Goals as goal

pub hold-requires-clause-within : goal.hold-requires-clause-within
hold-requires-clause-within c =
    let room : held_by c.args.self.now c.args.consumer + c.args.bytes ≤ share_of c.args.self.now c.args.consumer = omega (arith, c.held-held.ensures.held, c.share-share.ensures.share, c.if-share-held.false, c.if-share-held-2.false) in
    subst (λ (n : ℕ). sum (set c.args.self.now.held c.args.consumer (n + c.args.bytes)) ≤ c.args.self.now.limit) (sym c.held-held.ensures.held)
    (grown_within c.args.self.now c.args.consumer c.args.bytes c.held-held.ensures.within room)
