use Rattle.std.proofs.Common.{◌≡◌, take}
use Rattle.column_batch.specs.Parts.{all_with_parts}
use Rattle.column_batch.proofs.builder.extend_all.Given as goal

abbrev pub invariant-loop-other : goal.invariant-loop-other
invariant-loop-other l = (l.at ≡ l.other-index) × (l.columns.items ≡ all_with_parts l.fn.columns.items (take l.other-index l.others) l.from l.to)
