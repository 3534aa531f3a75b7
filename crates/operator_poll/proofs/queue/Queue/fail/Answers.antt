use Rattle.std.proofs.Common.{rules, ◌≡◌, ◌++◌, ap, sym, ◌∙◌, subst, Option}
use Rattle.dfx_value.specs.Items.{Item, of_rows}
use Rattle.dfx_value.specs.declared.fault.EvalFault.{EvalFault}
use Rattle.operator_poll.specs.Waiting.{Waiting, all_rows, faulted}
use Rattle.operator_poll.proofs.Queues.{put_behind, put_fault}
use Rattle.operator_poll.proofs.queue.Queue.fail.Goals as goal

pub returns-in-Some-clause-items : goal.returns-in-Some-clause-items
returns-in-Some-clause-items c =
    put_behind (all_rows c.self.inside.batches.items) c.in-Some.field-0 c.args.self.now.items (faulted c.args.fault)
    (ap (λ (f : Option EvalFault). of_rows (all_rows c.self.inside.batches.items) ++ faulted f) (sym c.in-Some.is) ∙ ap (λ (w : Waiting). w.items) c.self.view_is)

pub returns-in-None-clause-items : goal.returns-in-None-clause-items
returns-in-None-clause-items c =
    put_fault (all_rows c.self.inside.batches.items) c.args.fault c.args.self.now.items
    (ap (λ (f : Option EvalFault). of_rows (all_rows c.self.inside.batches.items) ++ faulted f) (sym c.in-None.is) ∙ ap (λ (w : Waiting). w.items) c.self.view_is)
