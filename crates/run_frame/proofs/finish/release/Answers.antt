use Rattle.std.proofs.Common.{◌<◌, length, get_or, sym, ap, ◌∙◌, subst}
use Rattle.fair_pool.specs.Share.{Pool}
use Rattle.run_frame.proofs.Releases.{has_at, released_step}
use Rattle.run_frame.proofs.finish.release.Goals as goal

pub held-held-requires : goal.held-held-requires
held-held-requires c =
    record { inside = subst (λ xs. get_or c.args.consumers.now c.loop-consumer.consumer-index 0 < length xs) (sym c.loop-consumer.invariant.spillable) (c.requires.inside _ (has_at c.args.consumers.now c.loop-consumer.consumer-index c.loop-consumer-test.true)) }

pub shrink-requires-clause-inside : goal.shrink-requires-clause-inside
shrink-requires-clause-inside c =
    subst (λ xs. get_or c.args.consumers.now c.loop-consumer.consumer-index 0 < length xs) (sym c.loop-consumer.invariant.spillable) (c.requires.inside _ (has_at c.args.consumers.now c.loop-consumer.consumer-index c.loop-consumer-test.true))

pub loop-consumer-preserved : goal.loop-consumer-preserved
loop-consumer-preserved c = record {
  pool = released_step c.args.consumers.now c.loop-consumer.consumer-index c.loop-consumer.pool c.shrink.new.self c.held-held.result c.loop-consumer-test.true c.held-held.ensures.held c.shrink.ensures.held ∙ c.loop-consumer.invariant.pool;
  spillable = ap (λ (x : Pool). x.spillable) c.shrink.ensures.held ∙ c.loop-consumer.invariant.spillable;
}
