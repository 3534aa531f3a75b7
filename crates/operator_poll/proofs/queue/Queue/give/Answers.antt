use Rattle.std.proofs.Common.{rules, ap}
use Rattle.operator_poll.specs.Waiting.{Waiting, all_rows, faulted}
use Rattle.operator_poll.proofs.Queues.{give_rest}
use Rattle.operator_poll.proofs.queue.Queue.give.Goals as goal

pub returns-clause-rest : goal.returns-clause-rest
returns-clause-rest c =
    give_rest c.cut.result c.in_ok-given.given (all_rows c.self.inside.batches.items) (all_rows c.take_rows.new.batches.items) (faulted c.self.inside.fault) c.args.self.now.items c.args.most
    c.cut.ensures.same c.in_ok-given.ensures.rows c.in_ok-given.ensures.rest (ap (λ (w : Waiting). w.items) c.self.view_is)
