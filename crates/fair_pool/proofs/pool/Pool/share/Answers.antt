use Rattle.std.proofs.Common.{◌<◌, ◌≤◌, ◌≡◌, ◌-◌, ◌+◌, ◌/◌, true, false, length, get_or, sum, arith, sym, ap, ◌∙◌, subst}
use Rattle.fair_pool.specs.Share.{Pool, fixed, spillables}
use Rattle.fair_pool.proofs.Sums.{read_at, fixed_le_sum, held_le_sum, spillables_some, share_spills, share_stays, min_same}
use Rattle.fair_pool.proofs.pool.Pool.share.Goals as goal

pub overflow_sub-self-inside : goal.overflow_sub-self-inside
overflow_sub-self-inside c =
    let h : fixed c.self.inside.spillable.items c.self.inside.held.items ≤ sum c.self.inside.held.items = fixed_le_sum _ _ in
    omega (arith, c.self.invariant.unspillable, c.self.invariant.within)

pub nonzero_div-self-inside : goal.nonzero_div-self-inside
nonzero_div-self-inside c =
    let inside : c.args.consumer < length c.self.inside.spillable.items = subst (λ (p : Pool). c.args.consumer < length p.spillable) (sym c.self.view_is) c.requires.inside in
    let h : 0 < spillables c.self.inside.spillable.items = spillables_some _ c.args.consumer (sym (read_at _ _ _ false inside c.index-2.ensures) ∙ c.if-index.true) in
    omega (arith, c.self.invariant.spillable)

pub returns-then-index : goal.returns-then-index
returns-then-index c =
    let inside : c.args.consumer < length c.self.inside.spillable.items = subst (λ (p : Pool). c.args.consumer < length p.spillable) (sym c.self.view_is) c.requires.inside in
    let inside2 : c.args.consumer < length c.self.inside.held.items = rw c.self.invariant.long inside in
    let held : c.index.result.now ≡ get_or c.self.inside.held.items c.args.consumer 0 = read_at c.self.inside.held.items c.args.consumer c.index.result.now 0 inside2 c.index.ensures in
    let h : get_or c.self.inside.held.items c.args.consumer 0 ≤ sum c.self.inside.held.items = held_le_sum c.self.inside.held.items c.args.consumer in
    let room : c.self.inside.limit - (c.self.inside.in_all - c.index.result.now) ≡ get_or c.self.inside.held.items c.args.consumer 0 + c.self.inside.limit - sum c.self.inside.held.items = omega (arith, c.self.invariant.within, c.self.invariant.in_all) in
    let fair : (c.self.inside.limit - c.self.inside.unspillable) / c.self.inside.spillables ≡ (c.self.inside.limit - fixed c.self.inside.spillable.items c.self.inside.held.items) / spillables c.self.inside.spillable.items =
    ap (λ n. (c.self.inside.limit - n) / c.self.inside.spillables) c.self.invariant.unspillable ∙ ap (λ n. (c.self.inside.limit - fixed c.self.inside.spillable.items c.self.inside.held.items) / n) c.self.invariant.spillable in
    let spills : get_or c.self.inside.spillable.items c.args.consumer false ≡ true = sym (read_at _ _ _ false inside c.index-2.ensures) ∙ c.if-index.true in
    record { share = rw (← c.self.view_is) (min_same _ _ _ _ _ c.min.ensures room fair ∙ sym (share_spills c.self.inside.limit c.self.inside.spillable.items c.self.inside.held.items c.args.consumer spills)) }

pub returns-else-index : goal.returns-else-index
returns-else-index c =
    let inside : c.args.consumer < length c.self.inside.spillable.items = subst (λ (p : Pool). c.args.consumer < length p.spillable) (sym c.self.view_is) c.requires.inside in
    let inside2 : c.args.consumer < length c.self.inside.held.items = rw c.self.invariant.long inside in
    let held : c.index.result.now ≡ get_or c.self.inside.held.items c.args.consumer 0 = read_at c.self.inside.held.items c.args.consumer c.index.result.now 0 inside2 c.index.ensures in
    let h : get_or c.self.inside.held.items c.args.consumer 0 ≤ sum c.self.inside.held.items = held_le_sum c.self.inside.held.items c.args.consumer in
    let room : c.self.inside.limit - (c.self.inside.in_all - c.index.result.now) ≡ get_or c.self.inside.held.items c.args.consumer 0 + c.self.inside.limit - sum c.self.inside.held.items = omega (arith, c.self.invariant.within, c.self.invariant.in_all) in
    record { share = rw (← c.self.view_is) (room ∙ sym (share_stays c.self.inside.limit c.self.inside.spillable.items c.self.inside.held.items c.args.consumer (sym (read_at _ _ _ false inside c.index-2.ensures) ∙ c.if-index.false))) }
