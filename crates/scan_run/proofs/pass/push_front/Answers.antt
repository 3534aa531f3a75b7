use Rattle.std.proofs.Common.{◌≡◌, ◌∙◌, ◌++◌, ap, sym, List}
use Rattle.logical_plan.specs.Items.{Cells}
use Rattle.result_text.specs.AnswerText.{row_lines}
use Rattle.scan_run.proofs.FrontSteps.{front_clean, front_fault}
use Rattle.scan_run.proofs.pass.push_front.Goals as goal

pub returns-in-None : goal.returns-in-None
returns-in-None c items h =
    let clean = front_clean items c.args.front.now.batch.rows c.args.front.now.fault h c.in-None.is in
    (clean.0, c.in_ok-push_batch.ensures ∙ ap (λ (rs : List Cells). c.args.lines.now ++ row_lines rs) (sym clean.1))

pub returns-in-Some : goal.returns-in-Some
returns-in-Some c items h = front_fault items c.args.front.now.batch.rows c.args.front.now.fault c.in-Some.fault h c.in-Some.is
