-- Words: what a run keeps by each act, and what it keeps where it is told.
use Rattle.std.specs.Prelude.{ℕ, ◌≡◌, Some, List}
use Rattle.run_journal.specs.declared.entry.Entry.{Entry}
use Rattle.task_shape.specs.Shape.{Shape}
use Rattle.core_frame.specs.Frame.{Frame, opening}
use Rattle.core_frame.specs.Good.{AreOwn}
use Rattle.core_frame.specs.Lawful.{IsLawful}
use Rattle.core_frame.specs.Step.{Need, frame_replay}
use Rattle.logical_plan.specs.Items.{Cells}
use Rattle.tree_laws.specs.Tasks.{Task}
use Rattle.tree_laws.specs.Runs.{State, the_task}
use Rattle.turn_cell.specs.declared.act.Act.{Act}
use Rattle.turn_cell.specs.Acts.{journal_of}
use Rattle.core_frame.specs.Carried.{map_frame}
use Rattle.tree_laws.specs.Settles.{Leads}
use Rattle.run_laws.specs.Others.{entries_of}
use Rattle.run_laws.specs.Loans.{AreLoans}

-- the entries among the acts, with some needs of the tasks' own, lead the opening to this frame, which is lawful, and
-- loans are ownership by place
pub record IsRun {B : Type 0} (p : Shape) (limit : ℕ) (acts : List Act) (f : Frame B) : Type 0 where
  pub steps : List (Entry × Need B)
  pub entries : entries_of steps ≡ journal_of acts
  pub own : AreOwn p steps
  pub leads : frame_replay p (Some (opening p limit)) steps ≡ Some f
  pub lawful : IsLawful p f
  pub loans : AreLoans acts f

-- the entries lead from the start to a state whose frame is this one with rows for batches
pub record IsToldRun {B : Type 0} (rows : B → List Cells) (p : Shape) (size : ℕ) (start : State) (acts : List Act)
    (f : Frame B)
    : Type 0 where
  pub state : State
  pub leads : Leads p size start (journal_of acts) state
  pub frame : state.run.frame ≡ map_frame rows f

-- the acts lead to a state where task t is this one
pub record TaskIs (p : Shape) (size : ℕ) (start : State) (acts : List Act) (t : ℕ) (k : Task) : Type 0 where
  pub state : State
  pub leads : Leads p size start (journal_of acts) state
  pub same : the_task state.tasks t ≡ k
