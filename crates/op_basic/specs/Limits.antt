-- Meaning: what a limit keeps of what it was told.
use Rattle.std.specs.Prelude.{ℕ, ◌-◌, ◌==◌, ◌≡◌, Bool, false, Option, Some, None, List, length}
use Rattle.logical_plan.specs.Items.{Item}
use Rattle.tree_laws.specs.Operators.{Op, Told}
use Rattle.tree_laws.specs.OperatorKinds.{limit_op}
use Rattle.operator_poll.specs.Keeping.{Keeps}

-- how many more rows are given at most, where so many were taken of these
abbrev pub fewer : Option ℕ → ℕ → Option ℕ
fewer None taken = None
fewer (Some most) taken = Some (most - taken)

-- no more rows are given
abbrev pub is_full : Option ℕ → Bool
is_full None = false
is_full (Some most) = most == 0

-- a limit, with the items that wait, how many of the next rows are left out and how many behind them are given at most, and
-- whether its input has ended
pub record IsLimit (queue : List Item) (skipped : ℕ) (more : Option ℕ) (over : Bool) (op : Op) (t : Told) (n : ℕ) : Type 0 where
  pub skip : ℕ
  pub fetch : Option ℕ
  pub is : op ≡ limit_op skip fetch
  pub keeps : Keeps queue op t n
  pub out : skipped ≡ skip - length (t.taken 0)
  pub rest : more ≡ fewer fetch (length (t.taken 0) - skip)
  pub end : over ≡ t.ended 0
