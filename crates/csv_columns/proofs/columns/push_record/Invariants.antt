use Rattle.std.proofs.Common.{◌≡◌, ◌+◌, drop, take, length}
use Rattle.csv_columns.specs.Filled.{with_fields, behind, AllExtend}
use Rattle.csv_columns.proofs.columns.push_record.Given as goal

-- the columns to which a field was put, and the others as they were
abbrev pub invariant-loop-at : goal.invariant-loop-at
invariant-loop-at l = record {
  kept : AllExtend l.fn.columns.items l.columns.items;
  count : length l.columns.items ≡ length l.fn.columns.items;
  rest : drop l.at l.columns.items ≡ drop l.at l.fn.columns.items;
  whole : behind (take l.at l.columns.items) (with_fields l.number (l.at + 1) (drop l.at l.fn.columns.items) (drop l.at l.reader.fields))
      ≡ with_fields l.number 1 l.fn.columns.items l.reader.fields;
}
