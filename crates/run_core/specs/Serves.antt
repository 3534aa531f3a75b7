-- Words: what becomes of a task whose need was served.
use Rattle.std.specs.Prelude.{ℕ, ◌≡◌, Option, Some, None, List, true, false, slice_index_or}
use Rattle.turn_cell.specs.declared.act.Act.{Act}
use Rattle.task_shape.specs.Shape.{Shape}
use Rattle.core_frame.specs.Frame.{Frame}
use Rattle.core_frame.specs.Step.{Need}
use Rattle.logical_plan.specs.Items.{Cells}
use Rattle.tree_laws.specs.Tasks.{Task}
use Rattle.run_core.specs.Given.{Given}
use Rattle.run_core.specs.Fits.{Fits}

-- the worker goes on with y, which x has become: the run hasn't failed, and the task has made progress
pub record GoesOn {B T : Type 0} (number : T → ℕ) (suits : T → Shape → Type 0) (need : T → Option (Need (List Cells)))
    (stands : T → ℕ → Task → Type 0) (o : Given) (f : Frame B) (worker : ℕ) (acts : List Act) (x y : T)
    : Type 0 where
  pub fits : Fits o (suits y o.shape) (stands y o.size) (need y) (number y) worker acts
  pub same : number y ≡ number x
  pub free : need y ≡ None
  pub going : f.failure ≡ None
  pub marked : slice_index_or f.progress (number y) false ≡ true

-- a fact where the worker goes on, and one where it doesn't
abbrev pub OnNext : {T : Type 0} → Option T → (T → Type 0) → Type 0 → Type 0
OnNext (Some y) P parked = P y
OnNext None P parked = parked
