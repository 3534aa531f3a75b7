-- Meaning: what the entries of other workers leave of a task that a worker has.
use Rattle.std.specs.Prelude.{ℕ, ◌≡◌, false, List, map, slice_index_or}
use Rattle.run_journal.specs.declared.entry.Entry.{Entry}
use Rattle.core_frame.specs.declared.place.Place.TheVariants.{OwnedBy}
use Rattle.core_frame.specs.Frame.{Frame, place_of}
use Rattle.core_frame.specs.Step.{Need}
use Rattle.history_laws.specs.Histories.{Run, past_of}
use Rattle.tree_laws.specs.Runs.{State, the_task}

abbrev pub entries_of : {B : Type 0} → List (Entry × Need B) → List Entry
entries_of {B} steps = map (λ (x : Entry × Need B). x.0) steps

-- the worker still has the task, which has made as much progress as before
pub record StillHas {B : Type 0} (w t : ℕ) (f new : Frame B) : Type 0 where
  pub place : place_of new t ≡ OwnedBy w
  pub progress : slice_index_or new.progress t false ≡ slice_index_or f.progress t false

-- and its history is the same
pub record StillTells {B : Type 0} (w t : ℕ) (r new : Run B) : Type 0 where
  pub frame : StillHas w t r.frame new.frame
  pub past : past_of new.pasts t ≡ past_of r.pasts t

-- and so is what the history leads to
pub record IsLeft (w t : ℕ) (s new : State) : Type 0 where
  pub run : StillTells w t s.run new.run
  pub task : the_task new.tasks t ≡ the_task s.tasks t
