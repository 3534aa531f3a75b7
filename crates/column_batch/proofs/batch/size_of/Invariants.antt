use Rattle.std.proofs.Common.{◌≡◌, ◌+◌, ◌^◌, ◌<◌, min, drop}
use Rattle.column_batch.specs.Parts.{part_size}
use Rattle.column_batch.proofs.batch.size_of.Given as goal

-- the size so far, and the rest's
abbrev pub invariant-loop-column : goal.invariant-loop-column
invariant-loop-column l = record {
  whole : min (l.size + part_size (drop l.column-index l.columns) l.from l.to) 18446744073709551615 ≡ min (part_size l.columns l.from l.to) 18446744073709551615;
  within : l.size < 2 ^ 64;
}
