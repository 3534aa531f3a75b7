use Rattle.std.proofs.Common.{ap, ◌∙◌, refl}
use Rattle.turn_cell.specs.Loans.{loan_of}
use Rattle.turn_cell.proofs.Loans.{loan_after}
use Rattle.work_pool.proofs.tests.jobs.JobsWork.claim.Goals as goal

pub returns-in-Ok-clause-answer : goal.returns-in-Ok-clause-answer
returns-in-Ok-clause-answer c = let e = ap (loan_of c.args.worker) c.in-Ok.ensures.items ∙ loan_after c.args.worker c.args.self.now.log.items _ refl in (e, e)
