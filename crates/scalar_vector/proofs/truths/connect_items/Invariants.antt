use Rattle.std.proofs.Common.{◌≡◌, drop}
use Rattle.scalar_exprs.specs.Functions.{operated}
use Rattle.scalar_vector.specs.Fronts.{front}
use Rattle.scalar_vector.specs.Items.{truths, items_of}
use Rattle.scalar_vector.specs.Woven.{after, zipped}
use Rattle.scalar_vector.proofs.truths.connect_items.Given as goal

abbrev pub invariant-loop-at : goal.invariant-loop-at
invariant-loop-at l = after (truths l.truths) (front (drop l.at (zipped (operated l.op) (truths (items_of l.left)) (truths (items_of l.right)))))
    ≡ front (zipped (operated l.op) (truths (items_of l.left)) (truths (items_of l.right)))
