use Rattle.std.proofs.Common.{rules, ◌≡◌, ◌++◌, ◌<◌, ◌≤◌, arith, sym, subst, take, Option, Some, Ok}
use Rattle.dfx_value.specs.Items.{of_rows}
use Rattle.dfx_value.specs.declared.fault.EvalFault.{EvalFault}
use Rattle.dfx_value.specs.declared.fault.ItemFault.TheVariants.{Evaluation}
use Rattle.tree_laws.specs.Operators.{first_fault}
use Rattle.operator_poll.specs.Polls.{IsCut, count}
use Rattle.operator_poll.specs.Waiting.{faulted}
use Rattle.operator_poll.proofs.Queues.{cut_whole, cut_before, cut_fault}
use Rattle.operator_poll.proofs.queue.cut.Goals as goal

pub returns-in-None-clause-cut : goal.returns-in-None-clause-cut
returns-in-None-clause-cut c rows e h =
    let P : Option EvalFault → Type 0 = λ f. IsCut (take c.args.most (of_rows rows ++ faulted f)) (Ok c.args.given) in
    subst P (sym c.in-None.is) (cut_whole c.args.given rows c.args.most e h)

pub returns-then-count_of-most-clause-cut : goal.returns-then-count_of-most-clause-cut
returns-then-count_of-most-clause-cut c rows e h =
    let few : count c.args.given < c.args.most = omega arith in
    let P : Option EvalFault → Type 0 = λ f. first_fault (take c.args.most (of_rows rows ++ faulted f)) ≡ Some (Evaluation c.in-Some.fault) in
    subst P (sym c.in-Some.is) (cut_fault c.args.given rows c.in-Some.fault c.args.most few e)

pub returns-else-count_of-most-clause-cut : goal.returns-else-count_of-most-clause-cut
returns-else-count_of-most-clause-cut c rows e h =
    let many : c.args.most ≤ count c.args.given = omega arith in
    cut_before c.args.given rows (faulted c.args.fault) c.args.most many e h
