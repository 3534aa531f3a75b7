use Rattle.std.proofs.Common.{◌≡◌, map, drop}
use Rattle.scalar_vector.specs.declared.unary.Unary.TheVariants as unary
use Rattle.scalar_vector.specs.Fronts.{front}
use Rattle.scalar_vector.specs.Items.{items_of, truths}
use Rattle.scalar_vector.specs.Steps.{applied}
use Rattle.scalar_vector.specs.Woven.{after}
use Rattle.scalar_vector.proofs.unary.not_items.Given as goal

abbrev pub invariant-loop-at : goal.invariant-loop-at
invariant-loop-at l = after (truths l.bits) (front (drop l.at (map (applied unary.Not) (truths (items_of l.items))))) ≡ front (map (applied unary.Not) (truths (items_of l.items)))
