-- Meaning: what holds of each batch in a channel, and of each that was taken of it.
use Rattle.std.specs.Prelude.{ℕ}
use Rattle.std.specs.List.{AllByRecursion}
use Rattle.core_frame.specs.Sent.{ChannelsFit}
use Rattle.history_laws.specs.Histories.{Run, past_of}
use Rattle.history_laws.specs.Contents.{took}

-- each batch in a channel may be there, and each that a task took of one could be
pub record RunFits {B : Type 0} (P : ℕ → ℕ → B → Type 0) (r : Run B) : Type 0 where
  pub channels : ChannelsFit P r.frame
  pub taken : (t g c : ℕ) → AllByRecursion (P g c) (took g c (past_of r.pasts t))
