use Rattle.std.proofs.Common.{◌∙◌}
use Rattle.task_stations.specs.Scans.{IsScan}
use Rattle.task_stations.proofs.ScanReads.{only_files}
use Rattle.task_stations.proofs.Names.{done_named, scans_named, leaf_named, asks_named, own_front, own_back}
use Rattle.task_stations.proofs.Ups.{at_empty, at_rest, at_done, at_asks, at_files, at_piece, front_is, front_was, front_others, back_is, back_was, back_others}
use Rattle.task_stations.proofs.steps.+step.Goals as goal

pub step-returns-then-is_empty-clause-is : goal.step-returns-then-is_empty-clause-is
step-returns-then-is_empty-clause-is g t c = at_empty g.T.Operator.stands (IsScan g.F.RowFile.source g.F.RowFile.left c.args.most) _ _ c.if-is_empty.ensures

pub step-returns-in-Done-clause-is : goal.step-returns-in-Done-clause-is
step-returns-in-Done-clause-is g t c =
    at_done g.T.Operator.stands (IsScan g.F.RowFile.source g.F.RowFile.left c.args.most) _ _ _ _ _ c.split_at_mut-first.ensures.value c.split_at_mut-first.ensures.front_len c.in-Inner.is _ _ _ _
    c.seat_step.ensures.sizes c.in-Done.is c.in_ok-done-in-Inner.ensures.is

pub step-returns-in_ok-asked-in-Wants-clause-is : goal.step-returns-in_ok-asked-in-Wants-clause-is
step-returns-in_ok-asked-in-Wants-clause-is g t c =
    at_asks g.T.Operator.stands (IsScan g.F.RowFile.source g.F.RowFile.left c.args.most) _ _ _ _ _ c.split_at_mut-first.ensures.value c.split_at_mut-first.ensures.front_len c.in-Inner.is _ _ _ _ _ _ _ _ _
    c.as_slice.ensures.value c.seat_step.ensures.sizes c.hand_up.ensures.sizes c.step_below.auto.stations c.in-Wants.is c.in_ok-done-in-Inner.ensures.is c.in_ok-asked-in-Wants.ensures.is c.step_below.ensures.others c.hand_up.ensures.is

pub step_below-returns-then-is_empty-clause-is : goal.step_below-returns-then-is_empty-clause-is
step_below-returns-then-is_empty-clause-is g t c = at_rest g.T.Operator.stands (IsScan g.F.RowFile.source g.F.RowFile.left c.args.most) c.args.sizes.now _ _ _ c.if-is_empty.ensures

pub step_below-returns-then-input-eq0-clause-is : goal.step_below-returns-then-input-eq0-clause-is
step_below-returns-then-input-eq0-clause-is g t c =
    let cut = c.split_at_mut-front.ensures in
    let len = cut.front_len ∙ c.min.ensures in
    at_piece g.T.Operator.stands (IsScan g.F.RowFile.source g.F.RowFile.left c.args.most) _ _ _ _ _ _
    (front_was c.args.sizes.now _ _ _ c.if-is_empty.ensures cut.value len c.args.input c.if-input-eq0.true)
    (front_is c.args.sizes.now _ _ _ c.if-is_empty.ensures cut.value len c.args.input c.if-input-eq0.true _ c.step.auto.stations) c.step.ensures.is

pub step_below-returns-then-input-eq0-clause-others : goal.step_below-returns-then-input-eq0-clause-others
step_below-returns-then-input-eq0-clause-others g t c =
    let cut = c.split_at_mut-front.ensures in
    front_others c.args.sizes.now _ _ _ c.if-is_empty.ensures cut.value (cut.front_len ∙ c.min.ensures) c.args.input c.if-input-eq0.true _ c.step.auto.stations

pub step_below-returns-else-input-eq0-clause-is : goal.step_below-returns-else-input-eq0-clause-is
step_below-returns-else-input-eq0-clause-is g t c =
    let cut = c.split_at_mut-front.ensures in
    let len = cut.front_len ∙ c.min.ensures in
    at_piece g.T.Operator.stands (IsScan g.F.RowFile.source g.F.RowFile.left c.args.most) _ _ _ _ _ _
    (back_was c.args.sizes.now _ _ _ c.if-is_empty.ensures cut.value len c.args.input c.if-input-eq0.false)
    (back_is c.args.sizes.now _ _ _ c.if-is_empty.ensures cut.value len c.args.input c.if-input-eq0.false _ c.step_below.auto.stations) c.step_below.ensures.is

pub step_below-returns-else-input-eq0-clause-others : goal.step_below-returns-else-input-eq0-clause-others
step_below-returns-else-input-eq0-clause-others g t c =
    let cut = c.split_at_mut-front.ensures in
    back_others c.args.sizes.now _ _ _ c.if-is_empty.ensures cut.value (cut.front_len ∙ c.min.ensures) c.args.input c.if-input-eq0.false _ c.step_below.auto.stations c.step_below.ensures.others

pub step-returns-in-Scans-clause-is : goal.step-returns-in-Scans-clause-is
step-returns-in-Scans-clause-is g t c =
    at_files g.T.Operator.stands (IsScan g.F.RowFile.source g.F.RowFile.left c.args.most) (only_files _ _ c.args.most) _ _ _ _ _
    c.split_at_mut-first.ensures.value c.split_at_mut-first.ensures.front_len c.in-Scans.is _ _ _ c.scan_step.ensures.is

pub step-returns-in-Done-clause-own : goal.step-returns-in-Done-clause-own
step-returns-in-Done-clause-own g t c = λ r h.
    done_named r h _ _ _ _ c.split_at_mut-first.ensures.value c.split_at_mut-first.ensures.front_len c.in-Inner.seat c.seat_step.new.seat c.in_ok-done-in-Inner.field-0 c.in-Done.done
    c.in-Inner.is c.seat_step.ensures.consumer c.in-Done.is (c.in_ok-done-in-Inner.ensures.own r h)

pub step-returns-in-Scans-clause-own : goal.step-returns-in-Scans-clause-own
step-returns-in-Scans-clause-own g t c = λ r h.
    scans_named r h _ _ _ _ c.split_at_mut-first.ensures.value c.split_at_mut-first.ensures.front_len c.in-Scans.scan c.scan_step.new.scan c.scan_step.result c.in-Scans.is (c.scan_step.ensures.own r h)

pub step-returns-in-Leaf-clause-own : goal.step-returns-in-Leaf-clause-own
step-returns-in-Leaf-clause-own g t c = λ r h.
    leaf_named r h _ _ _ _ c.split_at_mut-first.ensures.value c.split_at_mut-first.ensures.front_len c.in-Leaf.inlet c.inlet_step.new.inlet c.inlet_step.result c.in-Leaf.is (c.inlet_step.ensures.own r h)

pub step-returns-in_ok-asked-in-Wants-clause-own : goal.step-returns-in_ok-asked-in-Wants-clause-own
step-returns-in_ok-asked-in-Wants-clause-own g t c = λ r h.
    asks_named r h _ _ _ _ c.split_at_mut-first.ensures.value c.split_at_mut-first.ensures.front_len c.in-Inner.seat c.seat_step.new.seat c.hand_up.new.seat c.step_below.new.stations _ c.hand_up.result
    c.in-Inner.is c.seat_step.ensures.consumer c.hand_up.ensures.consumer (c.in_ok-asked-in-Wants.ensures.own r h) (c.hand_up.ensures.own r h)

pub step_below-returns-then-input-eq0-clause-own : goal.step_below-returns-then-input-eq0-clause-own
step_below-returns-then-input-eq0-clause-own g t c = λ r h. own_front r h c.args.stations.now _ _ c.step.new.stations c.step.result c.split_at_mut-front.ensures.value (c.step.ensures.own r h)

pub step_below-returns-else-input-eq0-clause-own : goal.step_below-returns-else-input-eq0-clause-own
step_below-returns-else-input-eq0-clause-own g t c = λ r h. own_back r h c.args.stations.now c.split_at_mut-front.result.0.now c.split_at_mut-front.result.1.now c.step_below.new.stations c.step_below.result c.split_at_mut-front.ensures.value (c.step_below.ensures.own r h)
