use Rattle.std.proofs.Common.{◌≡◌, map, take}
use Rattle.dfx_value.specs.Rows.{cell}
use Rattle.scalar_vector.specs.Vectors.{places_of}
use Rattle.scalar_vector.specs.Fronts.{row_at}
use Rattle.scalar_vector.proofs.evaluate.gather.Given as goal

abbrev pub invariant-loop-at : goal.invariant-loop-at
invariant-loop-at l = l.values.items ≡ map (λ p. cell (row_at l.batch.rows p) l.column) (take l.at (places_of l.places))
