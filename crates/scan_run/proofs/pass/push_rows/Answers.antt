use Rattle.std.proofs.Common.{◌≡◌, List, [], ◌∷◌, Ok, arith, subst}
use Rattle.std.proofs.lemmas.Result.{err_from_is_err_and}
use Rattle.logical_plan.specs.Items.{Cells}
use Rattle.scan_run.specs.Chains.{over}
use Rattle.scan_run.specs.Words.{Adds}
use Rattle.scan_run.proofs.PassSteps.{added_none, added_more, added_all, rows_refused}
use Rattle.scan_run.proofs.pass.push_rows.Goals as goal

pub loop-at-init : goal.loop-at-init
loop-at-init c = added_none c.args.body.now c.args.batch.now.rows c.args.lines.now

pub returns-in_err-push_row : goal.returns-in_err-push_row
returns-in_err-push_row c =
    let q = err_from_is_err_and c.from_residual-in_err-push_row.result c.from_residual-in_err-push_row.ensures.1 in
    rows_refused (Unit {0}) (Unit {0}) c.from_residual-in_err-push_row.result c.in_err-push_row.field-0.0 q.0 c.args.body.now c.args.batch.now.rows c.loop-at.at c.in_ok-row.field-0
    c.args.lines.now c.loop-at.lines c.push_row.new.lines _ q.1 q.2 (omega arith) c.loop-at.invariant c.in_ok-row.ensures c.in_err-push_row.ensures

pub loop-at-preserved : goal.loop-at-preserved
loop-at-preserved c =
    added_more c.in_ok-push_row.field-0 c.args.body.now c.args.batch.now.rows c.loop-at.at c.args.lines.now c.loop-at.lines c.push_row.new.lines (omega arith) c.loop-at.invariant
    (subst (λ (r : Cells). Adds (Ok c.in_ok-push_row.field-0) (over c.args.body.now (Ok r ∷ [])) c.loop-at.lines c.push_row.new.lines) c.in_ok-row.ensures c.in_ok-push_row.ensures)

pub returns : goal.returns
returns c = added_all {A = Unit {0}} tt c.args.body.now c.args.batch.now.rows c.loop-at.at c.args.lines.now c.loop-at.lines (omega arith) c.loop-at.invariant
