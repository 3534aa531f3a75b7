use Rattle.std.proofs.Common.{◌≡◌, ◌+◌, ◌^◌, ◌<◌, map, min}
use Rattle.std.specs.Prelude.{slice_range}
use Rattle.dfx_value.specs.Rows.{row_size}
use Rattle.dfx_value.specs.declared.value.Value.TheVariants as value
use Rattle.value_columns.specs.Columns.{or_null}
use Rattle.value_columns.proofs.texts.Texts.size.Given as goal

-- the size so far, and the rest's
abbrev pub invariant-loop-at : goal.invariant-loop-at
invariant-loop-at l = record {
  whole : min (l.size + row_size (map (or_null value.Text) (slice_range l.self l.at l.to))) 18446744073709551615
      ≡ min (row_size (map (or_null value.Text) (slice_range l.self l.from l.to))) 18446744073709551615;
  within : l.size < 2 ^ 64;
}
