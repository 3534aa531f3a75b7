use Rattle.std.proofs.Common.{◌≡◌, take}
use Rattle.scalar_vector.specs.Vectors.{values_of}
use Rattle.scalar_vector.proofs.columns.copied_column.Given as goal

abbrev pub invariant-loop-at : goal.invariant-loop-at
invariant-loop-at l = l.column ≡ record { kind = l.fn.kind; values = take l.at (values_of l.vector) }
