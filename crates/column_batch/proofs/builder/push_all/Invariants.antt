use Rattle.std.proofs.Common.{◌≡◌, take}
use Rattle.column_batch.specs.Parts.{all_with}
use Rattle.column_batch.proofs.builder.push_all.Given as goal

abbrev pub invariant-loop-cell : goal.invariant-loop-cell
invariant-loop-cell l = (l.at ≡ l.cell-index) × (l.columns.items ≡ all_with l.fn.columns.items (take l.cell-index l.cells))
