-- Meaning: what a run is started with, and what it has when nobody has a task.
use Rattle.std.specs.Prelude.{ℕ, ◌<◌, ◌≡◌, Option, Some, None, List, length}
use Rattle.task_shape.specs.Shape.{Shape}
use Rattle.core_frame.specs.Frame.{Frame, opening}
use Rattle.core_frame.specs.Step.{Need}
use Rattle.logical_plan.specs.Items.{Cells}
use Rattle.tree_laws.specs.Tasks.{Task}
use Rattle.tree_laws.specs.Runs.{State, the_task}
use Rattle.run_core.specs.Given.{Given, IsGiven}
use Rattle.run_core.specs.Holds.{slot}

-- every task is there
abbrev pub AllHere : {T : Type 0} → List (Option T) → Type 0
AllHere {T} slots = (t : ℕ) → t < length slots → (x : T) × (slot slots t ≡ Some x)

-- The opening frame; and every task, at its number and of the shape, which asks nothing, and where all is told stands for its
-- task at the start.
pub record Starts {B T : Type 0} (number : T → ℕ) (suits : T → Shape → Type 0) (need : T → Option (Need (List Cells)))
    (stands : T → ℕ → Task → Type 0) (o : Given) (p : Shape) (f : Frame B) (slots : List (Option T))
    : Type 0 where
  pub given : IsGiven o
  pub shape : p ≡ o.shape
  pub frame : f ≡ opening o.shape o.limit
  pub long : length slots ≡ length o.shape.tasks
  pub all : AllHere slots
  pub numbered : (t : ℕ) (x : T) → slot slots t ≡ Some x → number x ≡ t
  pub suited : (t : ℕ) (x : T) → slot slots t ≡ Some x → suits x o.shape
  pub free : (t : ℕ) (x : T) → slot slots t ≡ Some x → need x ≡ None
  pub stand : (s : State) → o.start ≡ Some s → (t : ℕ) (x : T) → slot slots t ≡ Some x → stands x o.size (the_task s.tasks t)
