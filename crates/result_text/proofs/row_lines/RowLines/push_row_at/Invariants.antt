use Rattle.std.proofs.Common.{◌≡◌, ◌++◌, [], length, map, take, slice_index_or}
use Rattle.csv.specs.Writing.{default_writer, row_body}
use Rattle.dfx_value.specs.Print.{printed}
use Rattle.result_text.proofs.row_lines.RowLines.push_row_at.Given as goal

-- the fields so far stand behind what was there
abbrev pub invariant-loop-column : goal.invariant-loop-column
invariant-loop-column l = record {
  start : l.start ≡ length l.fn.self;
  text : l.self ≡ l.fn.self ++ row_body default_writer (take l.column (map printed (slice_index_or l.batch.rows l.at [])));
}
