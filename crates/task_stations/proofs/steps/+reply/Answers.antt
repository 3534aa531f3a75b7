use Rattle.std.proofs.Common.{rules, refl, ◌∙◌}
use Rattle.task_stations.specs.Scans.{IsScan}
use Rattle.task_stations.specs.Slots.{rows_of}
use Rattle.task_stations.proofs.ScanReads.{only_files}
use Rattle.task_stations.proofs.Names.{leaf_keeps, scans_keep, seat_keeps, front_keeps, back_keeps}
use Rattle.task_stations.proofs.Ups.{empty_of, front_is, front_was, front_others, back_is, back_was, back_others}
use Rattle.task_stations.proofs.Replies.{at_none, at_other, at_leaf, at_files, at_own, at_below, at_piece, waits}
use Rattle.task_stations.proofs.steps.+reply.Goals as goal

pub reply-returns-then-is_empty-clause-is : goal.reply-returns-then-is_empty-clause-is
reply-returns-then-is_empty-clause-is g t c = λ most. at_none g.T.Operator.stands (IsScan g.F.RowFile.source g.F.RowFile.left most) _ _ most _ c.if-is_empty.ensures

pub reply-returns-then-not-is_none-clause-is : goal.reply-returns-then-not-is_none-clause-is
reply-returns-then-not-is_none-clause-is g t c =
    λ most. at_own g.T.Operator.stands (IsScan g.F.RowFile.source g.F.RowFile.left most) _ _ _ _ _ _ c.split_at_mut-first.ensures.value c.split_at_mut-first.ensures.front_len _ c.in-Inner.is most _ _
    c.seat_reply.ensures.sizes (waits (rows_of c.in-Inner.seat.waiting) (search rules)) (c.seat_reply.ensures.is most)

pub reply-returns-else-not-is_none-clause-is : goal.reply-returns-else-not-is_none-clause-is
reply-returns-else-not-is_none-clause-is g t c =
    λ most. at_below g.T.Operator.stands (IsScan g.F.RowFile.source g.F.RowFile.left most) _ _ _ _ _ _ c.split_at_mut-first.ensures.value c.split_at_mut-first.ensures.front_len _ c.in-Inner.is most _ _ _ _
    c.as_slice.ensures.value c.reply_below.auto.stations (empty_of (rows_of c.in-Inner.seat.waiting) (search rules)) c.wanted-input.ensures (c.reply_below.ensures.is most) c.reply_below.ensures.others

pub reply_below-returns-then-is_empty-clause-is : goal.reply_below-returns-then-is_empty-clause-is
reply_below-returns-then-is_empty-clause-is g t c = λ most. at_other g.T.Operator.stands (IsScan g.F.RowFile.source g.F.RowFile.left most) _ _ most c.args.sizes.now _ _ c.if-is_empty.ensures

pub reply_below-returns-then-input-eq0-clause-is : goal.reply_below-returns-then-input-eq0-clause-is
reply_below-returns-then-input-eq0-clause-is g t c =
    let cut = c.split_at_mut-front.ensures in
    let len = cut.front_len ∙ c.min.ensures in
    λ most. at_piece g.T.Operator.stands (IsScan g.F.RowFile.source g.F.RowFile.left most) _ _ _ _ _ _ _
    (front_was c.args.sizes.now _ _ _ c.if-is_empty.ensures cut.value len c.args.input c.if-input-eq0.true)
    (front_is c.args.sizes.now _ _ _ c.if-is_empty.ensures cut.value len c.args.input c.if-input-eq0.true _ c.reply.auto.stations) most (c.reply.ensures.is most)

pub reply_below-returns-then-input-eq0-clause-others : goal.reply_below-returns-then-input-eq0-clause-others
reply_below-returns-then-input-eq0-clause-others g t c =
    let cut = c.split_at_mut-front.ensures in
    front_others c.args.sizes.now _ _ _ c.if-is_empty.ensures cut.value (cut.front_len ∙ c.min.ensures) c.args.input c.if-input-eq0.true _ c.reply.auto.stations

pub reply_below-returns-else-input-eq0-clause-is : goal.reply_below-returns-else-input-eq0-clause-is
reply_below-returns-else-input-eq0-clause-is g t c =
    let cut = c.split_at_mut-front.ensures in
    let len = cut.front_len ∙ c.min.ensures in
    λ most. at_piece g.T.Operator.stands (IsScan g.F.RowFile.source g.F.RowFile.left most) _ _ _ _ _ _ _
    (back_was c.args.sizes.now _ _ _ c.if-is_empty.ensures cut.value len c.args.input c.if-input-eq0.false)
    (back_is c.args.sizes.now _ _ _ c.if-is_empty.ensures cut.value len c.args.input c.if-input-eq0.false _ c.reply_below.auto.stations) most (c.reply_below.ensures.is most)

pub reply_below-returns-else-input-eq0-clause-others : goal.reply_below-returns-else-input-eq0-clause-others
reply_below-returns-else-input-eq0-clause-others g t c =
    let cut = c.split_at_mut-front.ensures in
    back_others c.args.sizes.now _ _ _ c.if-is_empty.ensures cut.value (cut.front_len ∙ c.min.ensures) c.args.input c.if-input-eq0.false _ c.reply_below.auto.stations c.reply_below.ensures.others

pub reply-returns-in-Leaf-clause-is : goal.reply-returns-in-Leaf-clause-is
reply-returns-in-Leaf-clause-is g t c =
    λ most. at_leaf g.T.Operator.stands (IsScan g.F.RowFile.source g.F.RowFile.left most) _ _ _ _ _ _ c.split_at_mut-first.ensures.value c.split_at_mut-first.ensures.front_len most _ _ c.in-Leaf.is (c.inlet_reply.ensures.is most)

pub reply-returns-in-Scans-clause-is : goal.reply-returns-in-Scans-clause-is
reply-returns-in-Scans-clause-is g t c =
    λ most. at_files g.T.Operator.stands (IsScan g.F.RowFile.source g.F.RowFile.left most) _ _ _ _ _ _ c.split_at_mut-first.ensures.value c.split_at_mut-first.ensures.front_len most (only_files _ _ most) _ _ c.in-Scans.is (λ t. c.scan_reply.ensures most t _)

pub reply-returns-in-Leaf-clause-own : goal.reply-returns-in-Leaf-clause-own
reply-returns-in-Leaf-clause-own g t c = λ r h.
    leaf_keeps r h _ _ _ _ c.split_at_mut-first.ensures.value c.split_at_mut-first.ensures.front_len c.in-Leaf.inlet c.inlet_reply.new.inlet c.in-Leaf.is c.inlet_reply.ensures.group c.inlet_reply.ensures.channel

pub reply-returns-in-Scans-clause-own : goal.reply-returns-in-Scans-clause-own
reply-returns-in-Scans-clause-own g t c = λ r h.
    scans_keep r h _ _ _ _ c.split_at_mut-first.ensures.value c.split_at_mut-first.ensures.front_len c.in-Scans.scan c.scan_reply.new.scan c.in-Scans.is

pub reply-returns-then-not-is_none-clause-own : goal.reply-returns-then-not-is_none-clause-own
reply-returns-then-not-is_none-clause-own g t c = λ r h.
    seat_keeps r h _ _ _ _ c.split_at_mut-first.ensures.value c.split_at_mut-first.ensures.front_len c.in-Inner.seat c.seat_reply.new.seat _ c.in-Inner.is c.seat_reply.ensures.consumer (λ k. k)

pub reply-returns-else-not-is_none-clause-own : goal.reply-returns-else-not-is_none-clause-own
reply-returns-else-not-is_none-clause-own g t c = λ r h.
    seat_keeps r h _ _ _ _ c.split_at_mut-first.ensures.value c.split_at_mut-first.ensures.front_len c.in-Inner.seat c.in-Inner.seat c.reply_below.new.stations c.in-Inner.is refl (c.reply_below.ensures.own r h)

pub reply_below-returns-then-input-eq0-clause-own : goal.reply_below-returns-then-input-eq0-clause-own
reply_below-returns-then-input-eq0-clause-own g t c = λ r h. front_keeps r h c.args.stations.now _ _ c.reply.new.stations c.split_at_mut-front.ensures.value (c.reply.ensures.own r h)

pub reply_below-returns-else-input-eq0-clause-own : goal.reply_below-returns-else-input-eq0-clause-own
reply_below-returns-else-input-eq0-clause-own g t c = λ r h. back_keeps r h c.args.stations.now c.split_at_mut-front.result.0.now c.split_at_mut-front.result.1.now c.reply_below.new.stations c.split_at_mut-front.ensures.value (c.reply_below.ensures.own r h)
