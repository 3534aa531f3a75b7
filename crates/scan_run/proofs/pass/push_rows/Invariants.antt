use Rattle.scan_run.proofs.PassSteps.{Added}
use Rattle.scan_run.proofs.pass.push_rows.Given as goal

abbrev pub invariant-loop-at : goal.invariant-loop-at
invariant-loop-at l = Added l.body l.batch.rows l.at l.fn.lines l.lines
