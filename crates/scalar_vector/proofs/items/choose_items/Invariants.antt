use Rattle.std.proofs.Common.{◌≡◌, take}
use Rattle.scalar_vector.specs.Items.{items_of}
use Rattle.scalar_vector.specs.Woven.{marked}
use Rattle.scalar_vector.proofs.items.choose_items.Given as goal

abbrev pub invariant-loop-at : goal.invariant-loop-at
invariant-loop-at g l = l.chosen ≡ marked (take l.at l.marks) (take l.at (items_of l.items))
