use Rattle.std.proofs.Common.{◌+◌, ◌<◌, ap, length, get_or, refl, ◌∙◌, arith}
use Rattle.std.proofs.Math.ListN.{length-set}
use Rattle.run_frame.proofs.Releases.{has_at}
use Rattle.run_frame.proofs.Starts.{count_counted}
use Rattle.run_frame.proofs.Tells.{read_default}
use Rattle.run_frame.proofs.start.count_targets.Goals as goal

pub index-requires : goal.index-requires
index-requires c = omega (arith, c.requires.inside (get_or c.args.targets.now c.loop-target.target-index 0) (has_at c.args.targets.now c.loop-target.target-index c.loop-target-test.true), c.loop-target.invariant.long, c.loop-target.senders.ok.0)

pub index_mut-requires : goal.index_mut-requires
index_mut-requires c = omega (arith, c.requires.inside (get_or c.args.targets.now c.loop-target.target-index 0) (has_at c.args.targets.now c.loop-target.target-index c.loop-target-test.true), c.loop-target.invariant.long, c.loop-target.senders.ok.0)

pub loop-target-preserved : goal.loop-target-preserved
loop-target-preserved c =
    let i = c.loop-target.target-index in
    let before = c.args.senders.now.items in
    let inside : get_or c.args.targets.now i 0 < length c.loop-target.senders.items = omega (arith, c.requires.inside (get_or c.args.targets.now i 0) (has_at c.args.targets.now i c.loop-target-test.true), c.loop-target.invariant.long) in
    record {
      long = length-set c.loop-target.senders.items (get_or c.args.targets.now i 0) c.in_ok-sum.sum ∙ c.loop-target.invariant.long;
      counts = λ k h. count_counted c.loop-target.senders.items before (get_or c.args.targets.now i 0) c.in_ok-sum.sum c.args.targets.now i k c.loop-target-test.true refl c.loop-target.invariant.long h
          (c.in_ok-sum.ensures ∙ ap (λ n. n + 1) (read_default c.loop-target.senders.items (get_or c.args.targets.now i 0) c.index.result.now 0 inside c.index.ensures)) (c.loop-target.invariant.counts k h);
    }
