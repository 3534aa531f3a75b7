-- Meaning: a told state after an entry of a run over other batches.
use Rattle.std.specs.Prelude.{Option, Some, None, List, option_map}
use Rattle.run_journal.specs.declared.entry.Entry.{Entry}
use Rattle.core_frame.specs.Frame.{Frame}
use Rattle.history_laws.specs.Histories.{Reply, pasts_after}
use Rattle.logical_plan.specs.Items.{Cells}
use Rattle.tree_laws.specs.Tasks.{Task, Wait}
use Rattle.tree_laws.specs.Runs.{State, tasks_after}
use Rattle.core_frame.specs.Carried.{map_frame}
use Rattle.history_laws.specs.Carried.{map_reply}

-- the frame is this one with rows for batches, and the task of the entry, which waited, was answered so
abbrev pub answered : {B : Type 0} → (B → List Cells) → State → Entry → Wait → Frame B → Option (Reply B) → State
answered rows s e w new o = record {
  run = record {
    frame = map_frame rows new;
    pasts = pasts_after s.run.pasts e.task w.need (option_map (map_reply rows) o);
  };
  tasks = tasks_after s.tasks e.task w (option_map (map_reply rows) o);
}

-- the frame is this one, and nobody was answered
abbrev pub unanswered : {B : Type 0} → (B → List Cells) → State → Frame B → State
unanswered rows s new = record { run = record { frame = map_frame rows new; pasts = s.run.pasts }; tasks = s.tasks }

-- the task that waited, after its entry
abbrev pub task_after : Wait → Option (Reply (List Cells)) → Task
task_after w None = w.now
task_after w (Some x) = w.after x
