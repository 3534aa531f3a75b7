use Rattle.logical_plan.specs.Body.{all_faults}
use Rattle.scan_run.specs.Outcomes.{Asked}
use Rattle.scan_run.proofs.EndSteps.{ran_met, complete_by, rose_later}
use Rattle.scan_run.proofs.run.run_chain.Goals as goal

pub returns-clause-met : goal.returns-clause-met
returns-clause-met g c scan all before tables scanned told taken has =
    let a : Asked = record { query = c.args.query.now; scan = scan; paths = c.args.paths.now; all = all; before = before } in
    ran_met (Unit {0}) a _ tables c.open_and_write-ran.result scanned has (c.open_and_write-ran.ensures.ran scan all before scanned told taken)

pub returns-clause-complete : goal.returns-clause-complete
returns-clause-complete g c scan all before tables scanned told taken has there none calm quiet =
    let a : Asked = record { query = c.args.query.now; scan = scan; paths = c.args.paths.now; all = all; before = before } in
    let ran = c.open_and_write-ran.ensures.ran scan all before scanned told taken in
    complete_by (Unit {0}) a _ (all_faults tables c.args.query.now.body) _ _ c.open_and_write-ran.result ran (ran_met (Unit {0}) a _ tables c.open_and_write-ran.result scanned has ran) there none
    (λ e. rose_later _ _ _ (c.open_and_write-ran.ensures.read e) c.close_all.ensures.later) c.open_and_write-ran.ensures.write calm quiet
