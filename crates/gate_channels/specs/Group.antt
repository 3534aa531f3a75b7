-- Words: what contracts see of a group, and what its calls need.
use Rattle.std.specs.Prelude.{ℕ, ◌<◌, ◌≤◌, ◌≡◌, Bool, true, Option, Some, None, List, [], ◌∷◌, length, map}
use Rattle.gate_channels.specs.Gate.{Channel, Gate, channel_at}
use Rattle.task_shape.specs.Numbers.{count, AreApart}
use Rattle.gate_channels.specs.Queue.{Ready}

-- its gate, and for how many tasks it was made
pub record Grouped (B : Type 0) : Type 0 where
  pub gate : Gate B
  pub room : ℕ

-- a channel with this number of senders, before any call
abbrev pub opened_for : {B : Type 0} → ℕ → Channel B
opened_for n = record { batches = []; live = true; unended = n; waiting = None }

-- a gate of one channel for each number of senders, before any call
abbrev pub opened_gate : {B : Type 0} → List ℕ → Gate B
opened_gate ns = record { channels = map opened_for ns; queue = [] }

-- each receiver that waits has a number below the bound
abbrev pub AreBelow : {B : Type 0} → List (Channel B) → ℕ → Type 0
AreBelow chs room = (c t : ℕ) → (channel_at (record { channels = chs; queue = [] }) c).waiting ≡ Some t → t < room

-- no task that waits in the group is woken, and the woken queue was made for at least the group's tasks
pub record WaitApart {B : Type 0} (g : Grouped B) (w : Ready) : Type 0 where
  pub gate : AreApart g.gate.queue w.tasks
  pub channels : (c t : ℕ) → (channel_at g.gate c).waiting ≡ Some t → count t w.tasks ≡ 0
  pub room : g.room ≤ w.room

-- a group and a woken queue before a call and after it: as many channels as before, and made for as many tasks
pub record KeepsSize {B : Type 0} (g g2 : Grouped B) (w w2 : Ready) : Type 0 where
  pub channels : length g2.gate.channels ≡ length g.gate.channels
  pub room : g2.room ≡ g.room
  pub queue_room : w2.room ≡ w.room
