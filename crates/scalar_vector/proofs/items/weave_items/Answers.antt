use Rattle.std.proofs.Common.{arith}
use Rattle.scalar_vector.specs.Items.{items_of}
use Rattle.scalar_vector.proofs.Loops.{weave-end}
use Rattle.scalar_vector.proofs.ItemSteps.{taken-item, rest-item, taken-end, rest-end}
use Rattle.scalar_vector.proofs.items.weave_items.Goals.{then-mark+else-from_taken-len+in_ok-push_item, else-mark+else-from_rest-len+in_ok-push_item-2}
use Rattle.scalar_vector.proofs.items.weave_items.Goals as goal

pub returns-then-from_taken-len : goal.returns-then-from_taken-len
returns-then-from_taken-len g c f = taken-end f c.args.marks.now (items_of c.args.taken.now) (items_of c.args.rest.now) c.loop-mark.woven c.args.taken_fault c.args.rest_fault
    c.loop-mark.mark-index c.loop-mark.from_taken c.loop-mark.from_rest _ c.loop-mark-test.true c.if-mark.true (omega arith) (c.loop-mark.invariant.0 f)

pub returns-then-from_rest-len : goal.returns-then-from_rest-len
returns-then-from_rest-len g c f = rest-end f c.args.marks.now (items_of c.args.taken.now) (items_of c.args.rest.now) c.loop-mark.woven c.args.taken_fault c.args.rest_fault
    c.loop-mark.mark-index c.loop-mark.from_taken c.loop-mark.from_rest _ c.loop-mark-test.true c.if-mark.false (omega arith) (c.loop-mark.invariant.0 f)

pub loop-mark-preserved : goal.loop-mark-preserved
loop-mark-preserved g c = elim c.if-mark.branch [
  | then-mark+else-from_taken-len+in_ok-push_item w ↦
      rw (w.woven-is, w.from_taken-is, w.from_rest-is) (
        (λ f. taken-item f c.args.marks.now (items_of c.args.taken.now) (items_of c.args.rest.now) c.loop-mark.woven w.push_item.new.self w.get.result c.args.taken_fault c.args.rest_fault
            c.loop-mark.mark-index c.loop-mark.from_taken c.loop-mark.from_rest _ c.loop-mark-test.true w.if-mark.true (omega arith) w.get.ensures w.in_ok-push_item.ensures.ok (c.loop-mark.invariant.0 f)),
        omega arith,
        omega arith,
      )
  | else-mark+else-from_rest-len+in_ok-push_item-2 w ↦
      rw (w.woven-is, w.from_taken-is, w.from_rest-is) (
        (λ f. rest-item f c.args.marks.now (items_of c.args.taken.now) (items_of c.args.rest.now) c.loop-mark.woven w.push_item-else-mark.new.self w.get-else-mark.result c.args.taken_fault c.args.rest_fault
            c.loop-mark.mark-index c.loop-mark.from_taken c.loop-mark.from_rest _ c.loop-mark-test.true w.if-mark.false (omega arith) w.get-else-mark.ensures w.in_ok-push_item-2.ensures.ok (c.loop-mark.invariant.0 f)),
        omega arith,
        omega arith,
      )
]

pub returns : goal.returns
returns g c f = weave-end c.args.marks.now _ _ _ c.args.taken_fault c.args.rest_fault c.loop-mark.mark-index _ c.loop-mark-test.false (c.loop-mark.invariant.0 f)
