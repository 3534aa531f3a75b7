-- Words: a queue that stands for what is left of an operator's items.
use Rattle.std.specs.Prelude.{ℕ, ◌≤◌, ◌≡◌, List, length}
use Rattle.dfx_value.specs.Items.{Item}
use Rattle.tree_laws.specs.Operators.{Op, Told}
use Rattle.operator_poll.specs.Polls.{left}
use Rattle.operator_poll.specs.Waiting.{as_far}

-- at most as many items were given as there are, and the queue has those that are left, up to the first fault
pub record Keeps (queue : List Item) (op : Op) (t : Told) (n : ℕ) : Type 0 where
  pub within : n ≤ length (op.items t)
  pub rest : queue ≡ as_far (left op t n)
