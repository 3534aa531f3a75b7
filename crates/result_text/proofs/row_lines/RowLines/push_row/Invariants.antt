use Rattle.std.proofs.Common.{◌≡◌, ◌++◌, length, map, take}
use Rattle.csv.specs.Writing.{default_writer, row_body}
use Rattle.dfx_value.specs.Print.{printed}
use Rattle.result_text.proofs.row_lines.RowLines.push_row.Given as goal

-- the fields so far stand behind what was there
abbrev pub invariant-loop-place : goal.invariant-loop-place
invariant-loop-place l = record {
  start : l.start ≡ length l.fn.self;
  text : l.self-inside.text.items ≡ l.fn.self ++ row_body default_writer (take l.place (map printed l.row));
}
