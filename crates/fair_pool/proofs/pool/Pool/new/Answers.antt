use Rattle.std.proofs.Common.{◌≡◌, Bool, length, replicate, rules, ap, sym, ◌∙◌}
use Rattle.fair_pool.specs.Share.{spillables}
use Rattle.fair_pool.proofs.Sums.{tallied_new}
use Rattle.fair_pool.proofs.pool.Pool.new.Goals as goal

pub invariant_of-result : goal.invariant_of-result
invariant_of-result c =
    let same : c.in_ok-to_vec.field-0.items ≡ c.args.spillable.now = search rules in
    let zeros : c.in_ok-vec.field-0.items ≡ replicate (length c.args.spillable.now) 0 = search rules in
    tallied_new _ _ _ _ (zeros ∙ ap (λ (ss : Rattle.std.specs.Prelude.List Bool). replicate (length ss) 0) (sym same)) (c.count_spillable.ensures ∙ ap spillables (sym same))
