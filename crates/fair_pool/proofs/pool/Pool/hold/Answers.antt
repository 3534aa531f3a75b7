use Rattle.std.proofs.Common.{◌<◌, ◌≤◌, ◌≡◌, ◌-◌, ◌+◌, false, length, get_or, set, sum, inl, inr, arith, sym, ap, ◌∙◌, subst}
use Rattle.fair_pool.specs.Share.{Pool, fixed}
use Rattle.fair_pool.proofs.Sums.{read_at, fixed_has, fixed_held, tallied_hold}
use Rattle.fair_pool.proofs.pool.Pool.hold.Goals as goal
use Rattle.fair_pool.proofs.pool.Pool.hold.Goals.{then-index, else-index}

pub overflow_sub-self-else-index : goal.overflow_sub-self-else-index
overflow_sub-self-else-index c =
    let inside : c.args.consumer < length c.self.inside.spillable.items = subst (λ (p : Pool). c.args.consumer < length p.spillable) (sym c.self.view_is) c.requires.inside in
    let inside2 : c.args.consumer < length c.self.inside.held.items = rw c.self.invariant.long inside in
    let before : c.index-before.result.now ≡ get_or c.self.inside.held.items c.args.consumer 0 = read_at _ _ _ _ inside2 c.index-before.ensures in
    let stays = sym (read_at _ _ _ false inside c.index.ensures) ∙ c.if-index.false in
    let has : get_or c.self.inside.held.items c.args.consumer 0 ≤ fixed c.self.inside.spillable.items c.self.inside.held.items = fixed_has _ _ _ inside inside2 stays in
    omega (arith, c.self.invariant.unspillable)

pub overflow_add-self-else-index : goal.overflow_add-self-else-index
overflow_add-self-else-index c =
    let inside : c.args.consumer < length c.self.inside.spillable.items = subst (λ (p : Pool). c.args.consumer < length p.spillable) (sym c.self.view_is) c.requires.inside in
    let inside2 : c.args.consumer < length c.self.inside.held.items = rw c.self.invariant.long inside in
    let within : sum (set c.self.inside.held.items c.args.consumer c.args.bytes) ≤ c.self.inside.limit = subst (λ (p : Pool). sum (set p.held c.args.consumer c.args.bytes) ≤ p.limit) (sym c.self.view_is) c.requires.within in
    let before : c.index-before.result.now ≡ get_or c.self.inside.held.items c.args.consumer 0 = read_at _ _ _ _ inside2 c.index-before.ensures in
    let stays = sym (read_at _ _ _ false inside c.index.ensures) ∙ c.if-index.false in
    let held : fixed c.self.inside.spillable.items c.self.inside.held.items - get_or c.self.inside.held.items c.args.consumer 0 + c.args.bytes ≤ c.self.inside.limit = fixed_held _ _ _ _ _ inside inside2 stays within in
    omega (arith, c.self.invariant.unspillable, c.self.ranges)

pub invariant_of-self : goal.invariant_of-self
invariant_of-self c =
    let inside : c.args.consumer < length c.self.inside.spillable.items = subst (λ (p : Pool). c.args.consumer < length p.spillable) (sym c.self.view_is) c.requires.inside in
    let inside2 : c.args.consumer < length c.self.inside.held.items = rw c.self.invariant.long inside in
    let within : sum (set c.self.inside.held.items c.args.consumer c.args.bytes) ≤ c.self.inside.limit = subst (λ (p : Pool). sum (set p.held c.args.consumer c.args.bytes) ≤ p.limit) (sym c.self.view_is) c.requires.within in
    let before : c.index-before.result.now ≡ get_or c.self.inside.held.items c.args.consumer 0 = read_at _ _ _ _ inside2 c.index-before.ensures in
    rw before (tallied_hold _ _ _ _ _ _ _ _ _ c.self.invariant inside within (elim c.if-index.branch [
      | then-index w ↦ inl (sym (read_at _ _ _ false inside c.index.ensures) ∙ w.if-index.true, w.self-is)
      | else-index w ↦ inr (sym (read_at _ _ _ false inside c.index.ensures) ∙ w.if-index.false, w.self-is ∙ ap (λ n. c.self.inside.unspillable - n + c.args.bytes) before)
    ]))
