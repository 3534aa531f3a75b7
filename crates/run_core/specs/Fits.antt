-- Meaning: what a job is while a worker has it, and what holds of the acts of a run.
use Rattle.std.specs.Prelude.{ℕ, ◌≡◌, Option, Some, List}
use Rattle.turn_cell.specs.declared.act.Act.{Act}
use Rattle.turn_cell.specs.Acts.{journal_of}
use Rattle.turn_cell.specs.Loans.{loan_of}
use Rattle.core_frame.specs.Frame.{Frame}
use Rattle.core_frame.specs.Step.{Need}
use Rattle.logical_plan.specs.Items.{Cells}
use Rattle.tree_laws.specs.Tasks.{Task}
use Rattle.tree_laws.specs.Runs.{State}
use Rattle.tree_laws.specs.Settles.{Leads}
use Rattle.run_laws.specs.Kept.{IsRun, TaskIs}
use Rattle.run_tasks.specs.Stands.{IsFor}
use Rattle.run_core.specs.Given.{Given, IsGiven}

-- the job is for the task of this number in the state that the acts lead to
pub record IsOut (o : Given) (start : State) (S : Task → Type 0) (need : Option (Need (List Cells))) (number : ℕ) (acts : List Act) : Type 0 where
  pub task : Task
  pub is : TaskIs o.shape o.size start acts number task
  pub stands : IsFor o.size S need task

-- the job is the worker's loan and of the run's shape, and where all is told it is for its task
pub record Fits (o : Given) (suited : Type 0) (S : Task → Type 0) (need : Option (Need (List Cells))) (number worker : ℕ) (acts : List Act)
    : Type 0 where
  pub loan : loan_of worker acts ≡ Some number
  pub suits : suited
  pub told : (start : State) → o.start ≡ Some start → IsOut o start S need number acts

-- The acts are those of a run over batches of this type: its journal is legal, loans are ownership by place, and where all is
-- told, the journal leads to a state.
pub record Sound (B : Type 0) (o : Given) (acts : List Act) : Type 0 where
  pub given : IsGiven o
  pub legal : (f : Frame B) × IsRun o.shape o.limit acts f
  pub told : (start : State) → o.start ≡ Some start → (s : State) × Leads o.shape o.size start (journal_of acts) s
