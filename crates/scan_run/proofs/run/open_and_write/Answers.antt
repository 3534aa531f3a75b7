use Rattle.std.proofs.Common.{ap, ℕ, Err}
use Rattle.std.proofs.lemmas.Result.{err_from_is_err_and, on_err_weaker}
use Rattle.scan_run.specs.Outcomes.{Asked}
use Rattle.scan_run.proofs.EndSteps.{ran_by, ran_opening, began, began_unopened}
use Rattle.scan_run.proofs.run.open_and_write.Goals as goal

pub returns-in_err-open_all-clause-ran : goal.returns-in_err-open_all-clause-ran
returns-in_err-open_all-clause-ran g c scan all before scanned told taken =
    let a : Asked = record { query = c.args.query.now; scan = scan; paths = c.args.paths.now; all = all; before = before } in
    let p = err_from_is_err_and c.from_residual.result c.from_residual.ensures.1 in
    rw (p.1, p.2) (ran_opening (Unit {0}) a _ c.in_err-open_all.field-0.0 c.in_err-open_all.ensures.kind (λ (f : ℕ) e. c.in_err-open_all.ensures.absent all f told (ap Err e)) taken)

pub returns-in_err-open_all-clause-part : goal.returns-in_err-open_all-clause-part
returns-in_err-open_all-clause-part g c scan all before scanned told taken =
    let a : Asked = record { query = c.args.query.now; scan = scan; paths = c.args.paths.now; all = all; before = before } in
    let p = err_from_is_err_and c.from_residual.result c.from_residual.ensures.1 in
    rw p.1 (began_unopened a _ taken)

pub returns-clause-ran : goal.returns-clause-ran
returns-clause-ran g c scan all before scanned told taken =
    let a : Asked = record { query = c.args.query.now; scan = scan; paths = c.args.paths.now; all = all; before = before } in
    let o = c.in_ok-open_all.ensures.all all told in
    ran_by (Unit {0}) a _ _ o c.write_answer.result scanned c.requires.unordered c.requires.uncut
    (c.write_answer.ensures.all scan o.contents before scanned o.tell taken)
    (λ e fault is named. c.write_answer.ensures.met scan o.contents before e fault scanned o.tell taken is named)
    (c.write_answer.ensures.part scan o.contents before scanned o.tell taken) c.write_answer.ensures.kind

pub returns-clause-part : goal.returns-clause-part
returns-clause-part g c scan all before scanned told taken =
    let a : Asked = record { query = c.args.query.now; scan = scan; paths = c.args.paths.now; all = all; before = before } in
    let o = c.in_ok-open_all.ensures.all all told in
    on_err_weaker c.write_answer.result (began a _ _ o) (c.write_answer.ensures.part scan o.contents before scanned o.tell taken)
