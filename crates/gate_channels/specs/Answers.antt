-- Words: what each call of a group answers, and what it leaves.
use Rattle.std.specs.Prelude.{ℕ, ◌<◌, ◌≡◌, Bool, true, false, not, List, [], ◌∷◌, ◌++◌}
use Rattle.gate_channels.specs.Gate.{Channel, Gate, Moved, channel_at, is_empty, is_open, some_live, after_wait, sent, received, held, awaited}
use Rattle.gate_channels.specs.declared.group.Sending.{Sending}
use Rattle.gate_channels.specs.declared.group.Sending.TheVariants.{Sent, Held, Dropped, NoMemory}
use Rattle.gate_channels.specs.declared.group.Receiving.{Receiving}
use Rattle.gate_channels.specs.declared.group.Receiving.TheVariants.{Batch, Empty, Ended}

-- a gate and a woken queue before a call and after it: the tasks that the call woke stand last in the queue
pub record Moves {B : Type 0} (m : Moved B) (new : Gate B) (before after : List ℕ) : Type 0 where
  pub gate : new ≡ m.gate
  pub woken : after ≡ before ++ m.woken

-- the same where nobody is woken
pub record Stays {B : Type 0} (g new : Gate B) (before after : List ℕ) : Type 0 where
  pub gate : new ≡ g
  pub woken : after ≡ before

-- task t sends b to channel c of the gate g: the answer, then the gate, and the woken queue before and after
abbrev pub Sends : {B : Type 0} → Gate B → ℕ → ℕ → B → Sending B → Gate B → List ℕ → List ℕ → Type 0
Sends g t c b Sent new ws ws2 = ((channel_at g c).live ≡ true) × (is_open g.channels ≡ true) × Moves (sent g c b) new ws ws2
Sends g t c b (Held d) new ws ws2 = ((channel_at g c).live ≡ true) × (is_open g.channels ≡ false) × (d ≡ b) × Stays (held g t) new ws ws2
Sends g t c b (Dropped d last) new ws ws2 = ((channel_at g c).live ≡ false) × (d ≡ b) × (last ≡ not (some_live g.channels)) × Stays g new ws ws2
Sends g t c b (NoMemory d) new ws ws2 = ((channel_at g c).live ≡ true) × (is_open g.channels ≡ true) × (d ≡ b) × Stays g new ws ws2

-- task t receives from channel c of the gate g, likewise
abbrev pub Receives : {B : Type 0} → Gate B → ℕ → ℕ → Receiving B → Gate B → List ℕ → List ℕ → Type 0
Receives {B} g t c (Batch b) new ws ws2 = (rest : List B) × ((channel_at g c).batches ≡ b ∷ rest) × Moves (received g c) new ws ws2
Receives g t c Empty new ws ws2 = ((channel_at g c).batches ≡ []) × (0 < (channel_at g c).unended) × Stays (awaited g c t) new ws ws2
Receives g t c Ended new ws ws2 = ((channel_at g c).batches ≡ []) × ((channel_at g c).unended ≡ 0) × Stays g new ws ws2

-- what taking from a channel answers, whether it took the last batch, and what it leaves
abbrev pub Takes : {B : Type 0} → Channel B → ℕ → Receiving B → Bool → Channel B → Type 0
Takes ch t (Batch b) last new = (ch.batches ≡ b ∷ new.batches) × (last ≡ is_empty new.batches) × (new.live ≡ ch.live) × (new.unended ≡ ch.unended) × (new.waiting ≡ ch.waiting)
Takes ch t Empty last new = (ch.batches ≡ []) × (0 < ch.unended) × (last ≡ false) × (new ≡ after_wait ch t)
Takes ch t Ended last new = (ch.batches ≡ []) × (ch.unended ≡ 0) × (last ≡ false) × (new ≡ ch)
