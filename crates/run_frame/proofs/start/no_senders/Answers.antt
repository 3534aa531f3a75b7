use Rattle.run_frame.proofs.Starts.{rows_more}
use Rattle.run_frame.proofs.start.no_senders.Goals as goal

pub loop-width-preserved : goal.loop-width-preserved
loop-width-preserved c = record {
  rows = rows_more c.loop-width.senders.items c.push.new.self.items c.in_ok-vec.field-0 (λ s. s.items) c.args.widths.now c.loop-width.width-index c.in_ok-push.ensures.items c.loop-width-test.true c.loop-width.invariant.rows (c.in_ok-vec.ensures.items_if_clones_equal (λ y e. e));
}
