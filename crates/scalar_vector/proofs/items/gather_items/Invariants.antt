use Rattle.std.proofs.Common.{◌≡◌, take, map, None, get_or}
use Rattle.scalar_vector.specs.Items.{items_of}
use Rattle.scalar_vector.specs.Vectors.{places_of}
use Rattle.scalar_vector.proofs.items.gather_items.Given as goal

abbrev pub invariant-loop-at : goal.invariant-loop-at
invariant-loop-at g l = l.gathered ≡ map (λ p. get_or (items_of l.items) p None) (take l.at (places_of l.places))
