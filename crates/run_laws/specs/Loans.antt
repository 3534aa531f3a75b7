-- Meaning: whose loan a task is by the acts, and whose it is by its place.
use Rattle.std.specs.Prelude.{ℕ, ◌≡◌, ◌⊎◌, Bool, true, false, Some, is_some, List, [], ◌∷◌}
use Rattle.run_journal.specs.declared.entry.EntryKind.{EntryKind}
use Rattle.run_journal.specs.declared.entry.EntryKind.TheVariants.{Failed}
use Rattle.core_frame.specs.declared.place.Place.TheVariants.{OwnedBy}
use Rattle.core_frame.specs.Frame.{Frame, place_of}
use Rattle.turn_cell.specs.declared.act.Act.{Act}
use Rattle.turn_cell.specs.declared.act.Act.TheVariants.{Made, Returned}
use Rattle.turn_cell.specs.Acts.{acts_by}
use Rattle.turn_cell.specs.Loans.{loan_of}

abbrev pub is_failed : EntryKind → Bool
is_failed (Failed cause) = true
is_failed _ = false

-- by this act its worker gives up: the run has failed, or had failed
abbrev pub gives_up : Act → Bool
gives_up (Made entry) = is_failed entry.kind
gives_up (Returned worker task) = true

abbrev pub last_gives_up : List Act → Bool
last_gives_up [] = false
last_gives_up (a ∷ []) = gives_up a
last_gives_up (a ∷ b ∷ rest) = last_gives_up (b ∷ rest)

-- by its last act the worker has given up
abbrev pub gave_up : ℕ → List Act → Bool
gave_up w acts = last_gives_up (acts_by w acts)

-- a loan by the acts is ownership by place, and the other way round but for workers that have given up; and a worker
-- has given up only in a failed run
pub record AreLoans {B : Type 0} (acts : List Act) (f : Frame B) : Type 0 where
  pub place : (w t : ℕ) → loan_of w acts ≡ Some t → place_of f t ≡ OwnedBy w
  pub loan : (w t : ℕ) → place_of f t ≡ OwnedBy w → (loan_of w acts ≡ Some t) ⊎ (gave_up w acts ≡ true)
  pub failed : (w : ℕ) → gave_up w acts ≡ true → is_some f.failure ≡ true
