use Rattle.std.proofs.Common.{◌≡◌, take}
use Rattle.column_batch.specs.Parts.{empties}
use Rattle.csv_columns.proofs.columns.empty_columns.Given as goal

abbrev pub invariant-loop-kind : goal.invariant-loop-kind
invariant-loop-kind l = l.all.items ≡ empties (take l.kind-index l.kinds)
