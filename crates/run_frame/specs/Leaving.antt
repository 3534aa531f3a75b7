-- Words: what the calls need by which a task ends.
use Rattle.std.specs.Prelude.{ℕ, ◌<◌, ◌≤◌, ◌≡◌, true, List, [], None, map, length}
use Rattle.gate_channels.specs.Queue.{Ready}
use Rattle.gate_channels.specs.Group.{Grouped}
use Rattle.task_shape.specs.Numbers.{count}
use Rattle.fair_pool.specs.Share.{Pool}
use Rattle.task_shape.specs.Shape.{Shape, TaskShape, names, has, width, sends_at}
use Rattle.core_frame.specs.Step.{drops, ends, released, with_pool}
use Rattle.core_frame.specs.Frame.{Frame, channel_of}
use Rattle.core_frame.specs.declared.place.Place.{Place}
use Rattle.core_frame.specs.Lawful.{IsFrame}
use Rattle.run_frame.specs.Running.{IsRunnable, frame_of, AllAre}

-- the groups and the queue alone
abbrev pub bare : {B : Type 0} → List (Grouped B) → List ℕ → List Place → Frame B
bare groups queue places = frame_of groups (record { limit = 0; spillable = []; held = [] }) queue places [] None

-- they are those of a frame of a shape, with room for every task
pub record Stands {B : Type 0} (p : Shape) (places : List Place) (groups : List (Grouped B)) (w : Ready) : Type 0 where
  pub frame : IsFrame p (bare groups w.tasks places)
  pub queue : w.room ≡ length places
  pub rooms : AllAre (length places) (map (λ g. g.room) groups)

-- and each of these pairs is a group and a channel of it
pub record Leaves {B : Type 0} (groups : List (Grouped B)) (w : Ready) (receives : List (ℕ × ℕ)) : Type 0 where
  pub shape : Shape
  pub places : List Place
  pub stands : Stands shape places groups w
  pub inside : (g c : ℕ) → names receives g c ≡ true → c < width shape g

-- and each of these channels of the group has as many unended senders as end
pub record EndsSenders {B : Type 0} (groups : List (Grouped B)) (w : Ready) (g : ℕ) (targets : List ℕ) : Type 0 where
  pub shape : Shape
  pub places : List Place
  pub stands : Stands shape places groups w
  pub inside : (c : ℕ) → has targets c ≡ true → c < width shape g
  pub enough : (c : ℕ) → has targets c ≡ true → count c targets ≤ (channel_of (bare groups w.tasks places) g c).unended

-- what a task that ends leaves
abbrev pub left_by : {B : Type 0} → TaskShape → Frame B → Frame B
left_by t f =
    let f2 = ends t.sends t.targets (drops t.receives f) in
    with_pool f2 (released t.consumers f2.pool)

-- the groups, the queue and the pool are those of a frame of the shape in which the task has not ended
pub record IsEnding {B : Type 0} (p : Shape) (t : ℕ) (groups : List (Grouped B)) (w : Ready) (pool : Pool) : Type 0 where
  pub places : List Place
  pub plan : IsRunnable p
  pub stands : Stands p places groups w
  pub inside : t < length p.tasks
  pub unended : (g c : ℕ) → sends_at p t g c ≡ true → 0 < (channel_of (bare groups w.tasks places) g c).unended
  pub spillable : pool.spillable ≡ p.spillable
