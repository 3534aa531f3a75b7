use Rattle.std.proofs.Common.{rules, ◌≡◌, ◌==◌, ℕ, true, ap, sym, ◌∙◌, length, deque_len}
use Rattle.tree_laws.specs.OperatorKinds.{is_empty}
use Rattle.operator_poll.specs.Waiting.{Waiting, faulted}
use Rattle.operator_poll.proofs.Queues.{some_item}
use Rattle.operator_poll.proofs.queue.Queue.is_empty.Goals as goal

pub returns-else-is_empty : goal.returns-else-is_empty
returns-else-is_empty c =
    let some : ¬ (length c.self.inside.batches.items ≡ 0) =
    (λ (none : length c.self.inside.batches.items ≡ 0).
    let t : (deque_len c.self.inside.batches == 0) ≡ true = ap (λ (k : ℕ). k == 0) (c.self.inside.batches.ok.0 ∙ none) in cc) in
    c.if-is_empty.false
    ∙ sym (some_item c.self.inside.kinds.items c.self.inside.batches.items (faulted c.self.inside.fault) c.self.invariant some)
    ∙ ap (λ (w : Waiting). is_empty w.items) c.self.view_is
