use Rattle.std.proofs.Common.{subst, false, refl}
use Rattle.task_stations.specs.declared.task.Exit.{Exit}
use Rattle.task_stations.specs.Turns.{IsExit}
use Rattle.task_stations.proofs.TaskTurns.{wrote}
use Rattle.task_stations.proofs.task.put_out.Goals as goal

pub returns-in_ok-write_rows-in-Writes : goal.returns-in_ok-write_rows-in-Writes
returns-in_ok-write_rows-in-Writes g c = λ first o n output k. wrote g.C.Splitter.cuts g.S.RowSink.lines first c.in-Writes.sink c.write_rows.new.sink c.args.batch.rows _ c.write_rows.result _ c.in_ok-write_rows-in-Writes.was refl c.write_rows.ensures o n output (let P : Exit g.row.C.Denot g.row.S.Denot → Type 0 = λ e. IsExit g.C.Splitter.cuts g.S.RowSink.lines first e o false n output in subst P c.in-Writes.is k)
