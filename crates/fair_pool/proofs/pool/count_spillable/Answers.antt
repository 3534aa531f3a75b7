use Rattle.std.proofs.Common.{arith}
use Rattle.fair_pool.proofs.Sums.{spillables_yes, spillables_no}
use Rattle.fair_pool.proofs.pool.count_spillable.Goals as goal
use Rattle.fair_pool.proofs.pool.count_spillable.Goals.{then-can_spill, else-can_spill}

pub loop-can_spill-preserved : goal.loop-can_spill-preserved
loop-can_spill-preserved c = elim c.if-can_spill.branch [
  | then-can_spill w ↦ (let s = spillables_yes c.args.spillable.now c.loop-can_spill.can_spill-index _ c.loop-can_spill-test.true w.if-can_spill.true in record { counted = omega arith; few = omega arith })
  | else-can_spill w ↦ (let s = spillables_no c.args.spillable.now c.loop-can_spill.can_spill-index _ c.loop-can_spill-test.true w.if-can_spill.false in record { counted = omega arith; few = omega arith })
]
