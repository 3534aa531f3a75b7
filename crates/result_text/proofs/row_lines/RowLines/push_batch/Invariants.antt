use Rattle.std.proofs.Common.{◌≡◌, ◌++◌, length, take}
use Rattle.result_text.specs.AnswerText.{row_lines}
use Rattle.result_text.proofs.row_lines.RowLines.push_batch.Given as goal

-- the lines so far stand behind what was there
abbrev pub invariant-loop-at : goal.invariant-loop-at
invariant-loop-at l = l.self ≡ l.fn.self ++ row_lines (take l.at l.batch.rows)
