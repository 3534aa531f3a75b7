use Rattle.std.proofs.Common.{◌≡◌, take}
use Rattle.scalar_vector.specs.Vectors.{values_of}
use Rattle.scan_run.proofs.columns.column_of_kind.Given as goal

abbrev pub invariant-loop-at : goal.invariant-loop-at
invariant-loop-at l = l.column.values ≡ take l.at (values_of l.vector)
