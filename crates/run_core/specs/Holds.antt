-- Meaning: what a run keeps, whatever workers do.
use Rattle.std.specs.Prelude.{ℕ, ◌<◌, ◌≡◌, Option, Some, None, List, length, slice_index_or}
use Rattle.turn_cell.specs.declared.act.Act.{Act}
use Rattle.turn_cell.specs.Loans.{loan_of}
use Rattle.task_shape.specs.Shape.{Shape}
use Rattle.core_frame.specs.Frame.{Frame}
use Rattle.core_frame.specs.Step.{Need}
use Rattle.logical_plan.specs.Items.{Cells}
use Rattle.tree_laws.specs.Tasks.{Task}
use Rattle.tree_laws.specs.Runs.{State}
use Rattle.run_laws.specs.Kept.{IsRun, IsToldRun, TaskIs}
use Rattle.run_tasks.specs.Stands.{IsHere}
use Rattle.run_core.specs.Given.{Given, IsGiven}

-- the task at this number, where nobody has it
abbrev pub slot : {T : Type 0} → List (Option T) → ℕ → Option T
slot slots t = slice_index_or slots t None

-- the tasks that are here are those that nobody has, each at its number and of the run's shape
pub record IsStored {T : Type 0} (number : T → ℕ) (suits : T → Shape → Type 0) (p : Shape) (slots : List (Option T)) (acts : List Act) : Type 0 where
  pub long : length slots ≡ length p.tasks
  pub numbered : (t : ℕ) (x : T) → slot slots t ≡ Some x → number x ≡ t
  pub suited : (t : ℕ) (x : T) → slot slots t ≡ Some x → suits x p
  pub lent : (t : ℕ) → t < length slots → slot slots t ≡ None → (w : ℕ) × (loan_of w acts ≡ Some t)
  pub out : (w t : ℕ) → loan_of w acts ≡ Some t → slot slots t ≡ None

-- what is here as task t is for the task that the acts lead to
pub record StandsHere {T : Type 0} (need : T → Option (Need (List Cells))) (stands : T → ℕ → Task → Type 0) (o : Given) (start : State)
    (acts : List Act) (t : ℕ) (x : T)
    : Type 0 where
  pub task : Task
  pub is : TaskIs o.shape o.size start acts t task
  pub is_for : IsHere o.size (stands x o.size) (need x) task

-- told: the acts lead to a state of this frame, and until the run fails, each task that is here is for that state's
pub record IsToldHere {B T : Type 0} (rows : B → List Cells) (need : T → Option (Need (List Cells))) (stands : T → ℕ → Task → Type 0)
    (o : Given) (start : State) (f : Frame B) (slots : List (Option T)) (acts : List Act)
    : Type 0 where
  pub run : IsToldRun rows o.shape o.size start acts f
  pub here : f.failure ≡ None → (t : ℕ) (x : T) → slot slots t ≡ Some x → StandsHere need stands o start acts t x

-- a run with this opening, shape, frame and acts, and with these tasks that nobody has
pub record Holds {B T : Type 0} (rows : B → List Cells) (number : T → ℕ) (suits : T → Shape → Type 0) (need : T → Option (Need (List Cells)))
    (stands : T → ℕ → Task → Type 0) (o : Given) (p : Shape) (f : Frame B) (slots : List (Option T)) (acts : List Act)
    : Type 0 where
  pub given : IsGiven o
  pub shape : p ≡ o.shape
  pub run : IsRun o.shape o.limit acts f
  pub stored : IsStored number suits o.shape slots acts
  pub told : (start : State) → o.start ≡ Some start → IsToldHere rows need stands o start f slots acts
