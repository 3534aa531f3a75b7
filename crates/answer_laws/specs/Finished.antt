-- Meaning: a run of a plan whose root has finished.
use Rattle.std.specs.Prelude.{ℕ, ◌≡◌, List}
use Rattle.run_journal.specs.declared.entry.Entry.{Entry}
use Rattle.core_frame.specs.Frame.{place_of}
use Rattle.core_frame.specs.declared.place.Place.TheVariants.{Done}
use Rattle.physical_plan.specs.declared.plan.Plan.{Plan}
use Rattle.plan_shape.specs.Layout.{shape}
use Rattle.tree_laws.specs.Runs.{State, IsReached}
use Rattle.plan_task_laws.specs.Trees.{Doing}
use Rattle.plan_task_laws.specs.Starts.{start_of}

-- a state of a run of the plan in which the root has finished
pub record IsFinishedRun (f : Doing) (p : Plan) (s : State) : Type 0 where
  pub size : ℕ
  pub limit : ℕ
  pub entries : List Entry
  pub reached : IsReached (shape p) size limit (start_of f p limit) entries s
  pub done : place_of s.run.frame 0 ≡ Done
