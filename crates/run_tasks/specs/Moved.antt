-- Meaning: what a task as code does between what it asks.
use Rattle.std.specs.Prelude.{ℕ, ◌≡◌, Option, Some, None, List}
use Rattle.task_shape.specs.Shape.{Shape}
use Rattle.core_frame.specs.Step.{Need}
use Rattle.logical_plan.specs.Items.{Cells}
use Rattle.history_laws.specs.Histories.{Reply}
use Rattle.tree_laws.specs.Tasks.{Task, Waits, turn}
use Rattle.run_tasks.specs.Stands.{IsFor}

abbrev pub IsReady : Option (Need (List Cells)) → Type 0
IsReady need = (n : Need (List Cells)) × (need ≡ Some n)

-- a task that asked is as it was; another one asks, and is for each task that it stood for
pub record Moved {T : Type 0} (number : T → ℕ) (suits : T → Shape → Type 0) (need : T → Option (Need (List Cells)))
    (stands : T → ℕ → Task → Type 0) (old new : T)
    : Type 0 where
  pub same_number : number new ≡ number old
  pub still_suits : (p : Shape) → suits old p → suits new p
  pub ready : IsReady (need new)
  pub same : (n : Need (List Cells)) → need old ≡ Some n → new ≡ old
  pub settles : (size : ℕ) (k : Task) → need old ≡ None → stands old size k → IsFor size (stands new size) (need new) k

-- the task asks nothing, and stands for what each task that it stood for is after this reply
pub record Answered {T : Type 0} (number : T → ℕ) (suits : T → Shape → Type 0) (need : T → Option (Need (List Cells)))
    (stands : T → ℕ → Task → Type 0) (r : Reply (List Cells)) (old new : T)
    : Type 0 where
  pub same_number : number new ≡ number old
  pub still_suits : (p : Shape) → suits old p → suits new p
  pub free : need new ≡ None
  pub stands_after : (size : ℕ) (k : Task) (n : Need (List Cells)) (after : Reply (List Cells) → Task) → need old ≡ Some n → turn size k ≡ Waits n after
      → stands old size k → stands new size (after r)

-- the second is for all that the first is for, and asks the same
pub record Same {T : Type 0} (number : T → ℕ) (suits : T → Shape → Type 0) (need : T → Option (Need (List Cells)))
    (stands : T → ℕ → Task → Type 0) (x y : T)
    : Type 0 where
  pub same_number : number y ≡ number x
  pub same_need : need y ≡ need x
  pub still_suits : (p : Shape) → suits x p → suits y p
  pub still_stands : (size : ℕ) (k : Task) → stands x size k → stands y size k
