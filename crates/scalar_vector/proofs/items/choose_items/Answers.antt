use Rattle.std.proofs.Common.{arith, None}
use Rattle.std.proofs.lemmas.Grind.{common_steps}
use Rattle.scalar_vector.specs.Items.{items_of}
use Rattle.scalar_vector.proofs.Loops.{marked-on, marked-off}
use Rattle.scalar_vector.proofs.items.choose_items.Goals.{then-marks-at+in_ok-push_item, else-marks-at}
use Rattle.scalar_vector.proofs.items.choose_items.Goals as goal

pub loop-at-preserved : goal.loop-at-preserved
loop-at-preserved g c = elim c.if-marks-at.branch [
  | then-marks-at+in_ok-push_item w ↦
      let more = marked-on c.args.marks.now (items_of c.args.items.now) c.loop-at.at None (omega arith) (omega arith) w.if-marks-at.true in
      grind (arith, common_steps, more)
  | else-marks-at w ↦
      let more = marked-off c.args.marks.now (items_of c.args.items.now) c.loop-at.at None (omega arith) (omega arith) w.if-marks-at.false in
      grind (arith, common_steps, more)
]
