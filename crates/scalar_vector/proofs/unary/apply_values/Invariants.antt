use Rattle.std.proofs.Common.{◌≡◌, map, drop}
use Rattle.scalar_vector.specs.Vectors.{values_of}
use Rattle.scalar_vector.specs.Steps.{applied}
use Rattle.scalar_vector.specs.Fronts.{front}
use Rattle.scalar_vector.specs.Woven.{after}
use Rattle.scalar_vector.proofs.unary.apply_values.Given as goal

abbrev pub invariant-loop-at : goal.invariant-loop-at
invariant-loop-at l = after l.values.items (front (drop l.at (map (applied l.function) (values_of l.vector)))) ≡ front (map (applied l.function) (values_of l.vector))
