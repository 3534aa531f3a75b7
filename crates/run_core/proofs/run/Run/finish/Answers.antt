use Rattle.std.proofs.Common.{◌≡◌, None, sym, subst}
use Rattle.turn_cell.specs.Loans.{loan_of}
use Rattle.run_core.specs.RunView.{RunView}
use Rattle.run_core.proofs.Beginnings.{all_here}
use Rattle.run_core.proofs.run.Run.finish.Goals as goal

pub returns-clause-all : goal.returns-clause-all
returns-clause-all g c = all_here _ _ _ _ _ _ _ _ _ _ c.self.invariant.0 (λ w. subst (λ (r : RunView g.row.O.Denot g.row.B.Denot). loan_of w r.acts ≡ None) (sym c.self.view_is) (c.requires.free w))
