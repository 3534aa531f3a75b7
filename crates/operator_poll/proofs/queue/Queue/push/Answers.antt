use Rattle.std.proofs.Common.{rules, ◌≡◌, ◌++◌, ap, sym, ◌∙◌, Option, length, arith}
use Rattle.dfx_value.specs.Items.{of_rows}
use Rattle.dfx_value.specs.declared.fault.EvalFault.{EvalFault}
use Rattle.operator_poll.specs.Waiting.{Waiting, all_rows, faulted}
use Rattle.operator_poll.proofs.Queues.{put_behind, put_nothing, put_rows-are}
use Rattle.operator_poll.proofs.queue.Queue.push.Goals as goal

pub returns-in-Some-clause-ok : goal.returns-in-Some-clause-ok
returns-in-Some-clause-ok c =
    put_behind (all_rows c.self.inside.batches.items) c.in-Some.field-0 c.args.self.now.items (of_rows c.args.batch.rows)
    (ap (λ (f : Option EvalFault). of_rows (all_rows c.self.inside.batches.items) ++ faulted f) (sym c.in-Some.is) ∙ ap (λ (w : Waiting). w.items) c.self.view_is)

pub returns-then-rows-eq0-clause-ok : goal.returns-then-rows-eq0-clause-ok
returns-then-rows-eq0-clause-ok c =
    put_nothing (all_rows c.self.inside.batches.items) c.self.inside.fault c.args.self.now.items c.args.batch.rows (ap (λ (w : Waiting). w.items) c.self.view_is) (omega arith)

pub returns-clause-ok : goal.returns-clause-ok
returns-clause-ok c =
    ap (λ (f : Option EvalFault). of_rows (all_rows c.push_back.new.self.items) ++ faulted f) c.in-None.is
    ∙ put_rows-are c.self.inside.batches.items c.push_back.new.self.items c.args.batch c.args.self.now.items
    (ap (λ (f : Option EvalFault). of_rows (all_rows c.self.inside.batches.items) ++ faulted f) (sym c.in-None.is) ∙ ap (λ (w : Waiting). w.items) c.self.view_is)
    c.in_ok-push_back.ensures.items
