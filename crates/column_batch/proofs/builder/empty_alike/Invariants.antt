use Rattle.std.proofs.Common.{◌≡◌, take}
use Rattle.column_batch.specs.Batches.{kinds_of}
use Rattle.column_batch.specs.Parts.{empties}
use Rattle.column_batch.proofs.builder.empty_alike.Given as goal

abbrev pub invariant-loop-column : goal.invariant-loop-column
invariant-loop-column l = l.all.items ≡ empties (kinds_of (take l.column-index l.columns))
