use Rattle.std.proofs.Common.{◌≡◌, take}
use Rattle.csv.specs.Writing.{default_writer, row_body}
use Rattle.result_text.proofs.header.header_text.Given as goal

-- the fields so far
abbrev pub invariant-loop-place : goal.invariant-loop-place
invariant-loop-place l = l.text.items ≡ row_body default_writer (take l.place l.names)
