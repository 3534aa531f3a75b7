use Rattle.std.proofs.lemmas.Result.{on_err_weaker}
use Rattle.logical_plan.specs.Items.{concat}
use Rattle.scan_run.specs.Words.{items_of_all}
use Rattle.scan_run.proofs.EndSteps.{began_rows}
use Rattle.scan_run.proofs.run.write_answer.Goals as goal

pub returns-in-Ok-write_all-clause-part : goal.returns-in-Ok-write_all-clause-part
returns-in-Ok-write_all-clause-part g c s contents before scanned tell taken =
    let written = rw (c.as_slice-2.ensures, c.in-Ok.ensures, c.as_slice.ensures) at (c.in-Ok-write_all.ensures.ok before taken) in
    on_err_weaker c.write_files.result (began_rows c.args.query.now (concat (items_of_all s contents)) before _) (c.write_files.ensures.part s contents _ scanned tell written)
