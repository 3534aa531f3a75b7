-- Words: what contracts see of a run's frame, and what it keeps.
use Rattle.std.specs.Prelude.{ℕ, ◌+◌, ◌≡◌, Bool, if◌then◌else◌, List, [], ◌∷◌, Option, Some, None, map, length, slice_index_or}
use Rattle.run_journal.specs.declared.cause.Cause.{Cause}
use Rattle.gate_channels.specs.Group.{Grouped}
use Rattle.fair_pool.specs.Share.{Pool}
use Rattle.task_shape.specs.Shape.{Shape, IsShape, HasOwners}
use Rattle.core_frame.specs.Frame.{Frame, unfinished}
use Rattle.core_frame.specs.declared.place.Place.{Place}
use Rattle.core_frame.specs.declared.place.Place.TheVariants.{OwnedBy, Done}
use Rattle.core_frame.specs.Step.{wake_all}
use Rattle.core_frame.specs.Lawful.{IsLawful}

-- the shape of the plan, and the frame of the run
pub record Running (B : Type 0) : Type 0 where
  pub shape : Shape
  pub frame : Frame B

-- a plan's shape, of which each consumer is one task's
pub record IsRunnable (p : Shape) : Type 0 where
  pub plan : IsShape p
  pub owners : HasOwners p

-- the worker that owns a task which is at this place
abbrev pub owner_at : Place → Option ℕ
owner_at (OwnedBy w) = Some w
owner_at _ = None

-- ------------------------------------------------------------ what is kept

-- the places that are kept lack the wakings: who is in the queue is woken
abbrev pub frame_of : {B : Type 0} → List (Grouped B) → Pool → List ℕ → List Place → List Bool → Option Cause → Frame B
frame_of groups pool queue places progress failure = record {
  gates = map (λ g. g.gate) groups;
  pool = pool;
  queue = queue;
  places = wake_all queue places;
  progress = progress;
  failure = failure;
}

abbrev pub AllAre : ℕ → List ℕ → Type 0
AllAre n [] = Unit {0}
AllAre n (x ∷ xs) = (x ≡ n) × AllAre n xs

-- how many of these places are of tasks that have not ended
abbrev pub count_unfinished : List Place → ℕ
count_unfinished [] = 0
count_unfinished (q ∷ qs) = (if unfinished q then 1 else 0) + count_unfinished qs

-- who is owned by the kept place is owned
abbrev pub OwnersStand : List ℕ → List Place → Type 0
OwnersStand queue places = (t w : ℕ) → slice_index_or places t Done ≡ OwnedBy w → slice_index_or (wake_all queue places) t Done ≡ OwnedBy w

-- a plan's shape, a lawful frame, room for every task in each group and in the queue, and how many tasks have not ended
pub record IsRunning {B : Type 0} (p : Shape) (groups : List (Grouped B)) (pool : Pool) (queue : List ℕ) (room : ℕ) (places : List Place) (progress : List Bool) (failure : Option Cause) (left : ℕ) : Type 0 where
  pub plan : IsRunnable p
  pub lawful : IsLawful p (frame_of groups pool queue places progress failure)
  pub long : length progress ≡ length places
  pub queue_room : room ≡ length places
  pub rooms : AllAre (length places) (map (λ g. g.room) groups)
  pub spillable : pool.spillable ≡ p.spillable
  pub owned : OwnersStand queue places
  pub unended : left ≡ count_unfinished (wake_all queue places)
