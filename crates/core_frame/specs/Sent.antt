-- Meaning: what holds of each batch that is sent to a channel, and of each that is in it.
use Rattle.std.specs.Prelude.{ℕ, ◌≡◌, Bool, true, Some, List, [], ◌∷◌}
use Rattle.std.specs.List.{AllByRecursion}
use Rattle.run_journal.specs.declared.entry.Entry.{Entry}
use Rattle.task_shape.specs.Shape.{Shape, task_at}
use Rattle.core_frame.specs.Frame.{Frame, channel_of}
use Rattle.core_frame.specs.Step.{Need, Send}

-- P g c b: b may be in channel c of group g; by a test, where it passes
abbrev pub Passes : {B : Type 0} → (ℕ → ℕ → B → Bool) → ℕ → ℕ → B → Type 0
Passes test g c b = test g c b ≡ true

-- what task t sends may be in the channel that it goes to
abbrev pub SendFits : {B : Type 0} → Shape → (ℕ → ℕ → B → Type 0) → ℕ → Need B → Type 0
SendFits p P t (Send c b) = (g : ℕ) → (task_at p t).sends ≡ Some g → P g c b
SendFits p P t _ = Unit {0}

-- so it is of all steps
abbrev pub SendsFit : {B : Type 0} → Shape → (ℕ → ℕ → B → Type 0) → List (Entry × Need B) → Type 0
SendsFit p P [] = Unit {0}
SendsFit p P (s ∷ ss) = SendFits p P (s.0).task s.1 × SendsFit p P ss

-- each batch in a channel may be there
abbrev pub ChannelsFit : {B : Type 0} → (ℕ → ℕ → B → Type 0) → Frame B → Type 0
ChannelsFit P f = (g c : ℕ) → AllByRecursion (P g c) (channel_of f g c).batches
