-- Meaning: a run of tasks: each entry of the journal, by the one next need of its task.
use Rattle.std.specs.Prelude.{ℕ, ◌<◌, ◌≡◌, ◌==◌, if◌then◌else◌, Bool, true, false, Option, Some, None, List, [], ◌∷◌, ◌++◌, length, map, slice_index_or, slice_set}
use Rattle.run_journal.specs.declared.entry.Entry.{Entry}
use Rattle.run_journal.specs.declared.entry.EntryKind.{EntryKind}
use Rattle.run_journal.specs.declared.entry.EntryKind.TheVariants.{Claimed, Yielded}
use Rattle.task_shape.specs.Shape.{Shape, task_at, has, is_group, sends_at, receives_at}
use Rattle.core_frame.specs.declared.place.Place.TheVariants.{Done}
use Rattle.core_frame.specs.Frame.{Frame, place_of}
use Rattle.core_frame.specs.Step.{Need, Scan, may_fail}
use Rattle.core_frame.specs.Good.{AreOwn}
use Rattle.history_laws.specs.Histories.{Reply, Past, Run, begun, past_of, reply_of, run_step, run_replay}
use Rattle.history_laws.specs.Contents.{has_end, parts_sent, gone}
use Rattle.logical_plan.specs.Items.{Cells}
use Rattle.tree_laws.specs.Operators.{IsFront}
use Rattle.tree_laws.specs.Trees.{Nothing, form, HasInlet, HasConsumer}
use Rattle.tree_laws.specs.Tasks.{Parts, Split, Task, Wait, settle, handled, IsTask, IsEnded, IsLast}

pub record State : Type 0 where
  pub run : Run (List Cells)
  pub tasks : List Task  -- what each history leads to

-- what is read past the last task
abbrev pub no_task : Task
no_task = record { tree = Nothing; header = false; split = None; batches = 0; parts = []; leaving = false; output = [] }

abbrev pub the_task : List Task → ℕ → Task
the_task tasks t = slice_index_or tasks t no_task

-- ------------------------------------------------------------ steps

-- entries that stand whatever the task needs: a claim, a yield, and a failure of a device or of memory
abbrev pub asks_nothing : EntryKind → Bool
asks_nothing Claimed = true
asks_nothing Yielded = true
asks_nothing kind = may_fail kind

abbrev pub wait_by : ℕ → ℕ → Task → Bool → Option Wait
wait_by size steps k true = Some (record { now = k; need = Scan; after = λ _. k })
wait_by size steps k false = settle size steps k

abbrev pub wait_for : ℕ → ℕ → EntryKind → Task → Option Wait
wait_for size steps kind k = wait_by size steps k (asks_nothing kind)

abbrev pub tasks_after : List Task → ℕ → Wait → Option (Reply (List Cells)) → List Task
tasks_after tasks t w None = slice_set tasks t w.now
tasks_after tasks t w (Some x) = slice_set tasks t (w.after x)

abbrev pub state_after : Shape → State → Entry → Wait → Option (Run (List Cells)) → Option State
state_after p s e w None = None
state_after p s e w (Some r) = Some (record { run = r; tasks = tasks_after s.tasks e.task w (reply_of p s.run.frame e.task e.kind w.need) })

abbrev pub step_by : Shape → State → Entry → Option Wait → Option State
step_by p s e None = None
step_by p s e (Some w) = state_after p s e w (run_step p s.run e w.need)

-- the one next state by an entry, or none; a task does fewer than `steps` steps by itself
abbrev pub state_step : Shape → ℕ → ℕ → State → Entry → Option State
state_step p size steps s e = step_by p s e (wait_for size steps e.kind (the_task s.tasks e.task))

abbrev pub next_state : Shape → ℕ → ℕ → Option State → Entry → Option State
next_state p size steps None e = None
next_state p size steps (Some s) e = state_step p size steps s e

-- the state after these entries, or none
abbrev pub state_replay : Shape → ℕ → ℕ → Option State → List Entry → Option State
state_replay p size steps o [] = o
state_replay p size steps o (e ∷ es) = state_replay p size steps (next_state p size steps o e) es

-- ------------------------------------------------------------ what a run of tasks keeps

-- each part goes to a channel that passes
abbrev pub AllTo : (ℕ → Bool) → Parts → Type 0
AllTo passes [] = Unit {0}
AllTo passes (x ∷ xs) = (passes x.0 ≡ true) × AllTo passes xs

-- the task is that of the shape: its channels, its consumers and its targets
pub record Fits (p : Shape) (t : ℕ) (k : Task) : Type 0 where
  pub inlets : (g c : ℕ) → HasInlet g c k.tree → receives_at p t g c ≡ true
  pub consumers : (c : ℕ) → HasConsumer c k.tree → has (task_at p t).consumers c ≡ true
  pub sends : (split : Split) → k.split ≡ Some split → (g : ℕ) × ((task_at p t).sends ≡ Some g) × ((j : ℕ) (b : List Cells) → AllTo (has (task_at p t).targets) (split j b))

-- the start of a run: nothing was asked, each task agrees with that, and is that of the shape
pub record IsStart (p : Shape) (size limit : ℕ) (s : State) : Type 0 where
  pub run : s.run ≡ begun p limit
  pub long : length s.tasks ≡ length p.tasks
  pub task : (t : ℕ) → IsTask size [] (the_task s.tasks t)
  pub fits : (t : ℕ) → Fits p t (the_task s.tasks t)

-- the parts for one channel, in order
abbrev pub for_channel : ℕ → Parts → List (List Cells)
for_channel c [] = []
for_channel c (x ∷ xs) = (if x.0 == c then x.1 ∷ [] else []) ++ for_channel c xs

-- a task that finished has ended, or nobody took more of it; where a channel's end was told, its senders have ended, and none of their
-- parts was refused there; and what was sent to a channel is a front of the parts for it
pub record Delivered (p : Shape) (size : ℕ) (f : Frame (List Cells)) (pasts : List (Past (List Cells))) (tasks : List Task) : Type 0 where
  pub done : (t : ℕ) → t < length p.tasks → place_of f t ≡ Done → IsLast size (the_task tasks t)
  pub over : (t g c : ℕ) → receives_at p t g c ≡ true → has_end g c (past_of pasts t) ≡ true → (u : ℕ) → sends_at p u g c ≡ true
      → IsEnded size (the_task tasks u) × (gone c (past_of pasts u) ≡ false)
  pub front : (u g c : ℕ) → is_group (task_at p u).sends g ≡ true → IsFront (parts_sent c (past_of pasts u)) (for_channel c (handled (past_of pasts u)))

-- a state that entries reach from a start: its run is that of the entries with needs of their tasks' own, and each task agrees with its
-- history and is built as at the start
pub record IsReached (p : Shape) (size limit : ℕ) (start : State) (entries : List Entry) (s : State) : Type 0 where
  pub steps : List (Entry × Need (List Cells))
  pub same : map (λ (x : Entry × Need (List Cells)). x.0) steps ≡ entries
  pub own : AreOwn p steps
  pub run : run_replay p (Some (begun p limit)) steps ≡ Some s.run
  pub long : length s.tasks ≡ length p.tasks
  pub task : (t : ℕ) → IsTask size (past_of s.run.pasts t) (the_task s.tasks t)
  pub form : (t : ℕ) → form (the_task s.tasks t).tree ≡ form (the_task start.tasks t).tree
  pub split : (t : ℕ) → (the_task s.tasks t).split ≡ (the_task start.tasks t).split
  pub delivered : Delivered p size s.run.frame s.run.pasts s.tasks
