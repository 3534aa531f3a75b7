use Rattle.std.proofs.Common.{sym, subst, ◌≤◌, ℕ}
use Rattle.turn_cell.specs.Loans.{loan_follows}
use Rattle.turn_cell.proofs.Journals.{journal_follows}
use Rattle.turn_cell.proofs.holders.TurnCell.close.Goals as goal

pub returns-clause-each : goal.returns-clause-each
returns-clause-each g c = c.gather-place.ensures.each _ c.settle.ensures.follow

pub returns-clause-journal : goal.returns-clause-journal
returns-clause-journal g c = λ k d below. journal_follows _ _ _ (c.gather-place.ensures.each _ c.settle.ensures.follow k d below)

pub returns-clause-loans : goal.returns-clause-loans
returns-clause-loans g c = λ k d below. loan_follows _ _ _ (c.gather-place.ensures.each _ c.settle.ensures.follow k d below)

pub returns-clause-others : goal.returns-clause-others
returns-clause-others g c = λ n beyond. c.settle.ensures.others n (subst (λ (k : ℕ). k ≤ n) (sym c.args.self.counts.2) beyond)
