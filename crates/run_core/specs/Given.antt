-- Meaning: what a run was given.
use Rattle.std.specs.Prelude.{ℕ, ◌≡◌, Option, Some}
use Rattle.task_shape.specs.Shape.{Shape, IsShape}
use Rattle.tree_laws.specs.Runs.{State, IsStart}

pub record Given : Type 0 where
  pub shape : Shape  -- of its plan
  pub size : ℕ  -- how many rows a batch has at most
  pub limit : ℕ  -- how many bytes may be reserved at one time
  pub start : Option State  -- the start of the run, where all is told

pub record IsGiven (o : Given) : Type 0 where
  pub shape : IsShape o.shape
  pub start : (s : State) → o.start ≡ Some s → IsStart o.shape o.size o.limit s
