use Rattle.std.proofs.Common.{ℕ, ◌≡◌, ◌+◌, ◌-◌, ◌<◌, length, sym, ap, ◌∙◌, drop, arith}
use Rattle.plan_props.specs.Same.{leader}
use Rattle.plan_props.specs.Leaders.{pair_at}
use Rattle.plan_props.proofs.Tables.{at_any, leaders_step}
use Rattle.plan_props.proofs.leaders.leaders_of.Goals as goal

pub loop-at-preserved : goal.loop-at-preserved
loop-at-preserved c =
    let i : ℕ = c.loop-at.at - 1 in
    let b = c.width_of-width.ensures.below in
    let v = c.loop-at.invariant in
    let t = c.loop-at-test.true in
    let up : i + 1 ≡ c.loop-at.at = omega arith in
    let l : i < length c.args.pairs.now = omega arith in
    record {
      len = c.relead_all.ensures.len ∙ v.len;
      leaders = leaders_step c.args.pairs.now i c.width_of-width.result c.loop-at.table.items c.relead_all.new.table.items c.index-from.result.now c.index-to.result.now l b
          (λ k h. v.leaders k h ∙ ap (λ (m : ℕ). leader (drop m c.args.pairs.now) k) (sym up))
          (at_any c.loop-at.table.items (pair_at c.args.pairs.now i).1 c.index-from.result.now (let q = b.right i l in let w = v.len in omega arith) c.index-from.ensures)
          (at_any c.loop-at.table.items (pair_at c.args.pairs.now i).0 c.index-to.result.now (let q = b.left i l in let w = v.len in omega arith) c.index-to.ensures)
          (λ k h. c.relead_all.ensures.at k (let w = v.len in omega arith));
    }
