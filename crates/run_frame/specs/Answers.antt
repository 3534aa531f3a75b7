-- Meaning: the step that each call of a run's frame makes, and what it answers.
use Rattle.std.specs.Prelude.{ℕ, ◌≡◌, Bool, false, not, List, ◌∷◌, Option, Some, None}
use Rattle.run_journal.specs.declared.entry.Entry.{Entry}
use Rattle.run_journal.specs.declared.entry.EntryKind.{EntryKind}
use Rattle.run_journal.specs.declared.entry.EntryKind.TheVariants.{Sent, Held, Dropped, Received, Empty, Ended}
use Rattle.gate_channels.specs.declared.group.Sending.{Sending}
use Rattle.gate_channels.specs.declared.group.Sending.TheVariants as answers
use Rattle.gate_channels.specs.declared.group.Receiving.{Receiving}
use Rattle.gate_channels.specs.declared.group.Receiving.TheVariants as takes
use Rattle.gate_channels.specs.Gate.{some_live}
use Rattle.task_shape.specs.Shape.{task_at}
use Rattle.core_frame.specs.Frame.{Frame, gate_of, channel_of}
use Rattle.core_frame.specs.Step.{Need, Send, Recv, made, frame_step}
use Rattle.run_frame.specs.Running.{Running}

-- an entry of this kind by the worker, about the task
abbrev pub entry : ℕ → ℕ → EntryKind → Entry
entry w t k = record { worker = w; task = t; kind = k }

-- a need of the task's owner is served: the kind and the frame after it are those that the need and the frame before it
-- make, and the entry of that kind is one step
pub record IsServed {B : Type 0} (r new : Running B) (w t : ℕ) (need : Need B) (k : EntryKind) : Type 0 where
  pub kind : k ≡ (made r.shape r.frame t need).kind
  pub frame : new.frame ≡ (made r.shape r.frame t need).frame
  pub step : frame_step r.shape r.frame (entry w t k) need ≡ Some new.frame
  pub shape : new.shape ≡ r.shape

-- somebody receives from a channel of the group, if there is one
abbrev pub is_received : {B : Type 0} → Frame B → Option ℕ → Bool
is_received f None = false
is_received f (Some g) = some_live (gate_of f g).channels

-- what sending a batch answers and leaves: a batch that isn't sent comes back, and where it is dropped, whether nobody
-- receives in the group any more; want of memory stands in place of Sent, makes no entry and leaves all as it was
abbrev pub ServesSend : {B : Type 0} → Running B → ℕ → ℕ → ℕ → B → Sending B → Running B → Type 0
ServesSend r w t c b answers.Sent new = IsServed r new w t (Send c b) Sent
ServesSend r w t c b (answers.Held d) new = (d ≡ b) × IsServed r new w t (Send c b) Held
ServesSend r w t c b (answers.Dropped d last) new = (d ≡ b) × (last ≡ not (is_received r.frame (task_at r.shape t).sends)) × IsServed r new w t (Send c b) Dropped
ServesSend r w t c b (answers.NoMemory d) new = (d ≡ b) × ((made r.shape r.frame t (Send c b)).kind ≡ Sent) × (new ≡ r)

-- what receiving from a channel answers and leaves: a batch is the channel's first
abbrev pub ServesReceive : {B : Type 0} → Running B → ℕ → ℕ → ℕ → ℕ → Receiving B → Running B → Type 0
ServesReceive {B} r w t g c (takes.Batch b) new = IsServed r new w t (Recv g c) Received × ((rest : List B) × ((channel_of r.frame g c).batches ≡ b ∷ rest))
ServesReceive r w t g c takes.Empty new = IsServed r new w t (Recv g c) Empty
ServesReceive r w t g c takes.Ended new = IsServed r new w t (Recv g c) Ended
