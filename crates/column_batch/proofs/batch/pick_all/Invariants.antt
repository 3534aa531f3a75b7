use Rattle.std.proofs.Common.{◌≡◌, take}
use Rattle.column_batch.specs.Parts.{all_chosen}
use Rattle.column_batch.proofs.batch.pick_all.Given as goal

abbrev pub invariant-loop-column : goal.invariant-loop-column
invariant-loop-column l = l.all.items ≡ all_chosen (take l.column-index l.columns) l.from l.places
