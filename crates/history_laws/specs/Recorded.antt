-- Words: what each step of a run with histories keeps. A run keeps it as its invariant.
use Rattle.std.specs.Prelude.{◌≡◌, length}
use Rattle.task_shape.specs.Shape.{Shape}
use Rattle.core_frame.specs.Lawful.{IsLawful}
use Rattle.history_laws.specs.Histories.{Run}
use Rattle.history_laws.specs.Contents.{IsTold}

pub record IsRecorded {B : Type 0} (p : Shape) (r : Run B) : Type 0 where
  pub lawful : IsLawful p r.frame
  pub long : length r.pasts ≡ length p.tasks  -- a history for each task
  pub told : IsTold p r.frame r.pasts
