-- Meaning: what histories tell of channels: what was taken and what was sent, and how both go together.
use Rattle.std.specs.Prelude.{ℕ, ◌≡◌, ◌==◌, Bool, true, false, ◌&&◌, ◌||◌, if◌then◌else◌, List, [], ◌∷◌, ◌++◌}
use Rattle.task_shape.specs.Shape.{Shape, task_at, is_group, receives_at}
use Rattle.core_frame.specs.Frame.{Frame, channel_of}
use Rattle.core_frame.specs.Step.{Need, Recv, Send}
use Rattle.history_laws.specs.Histories.{Reply, Go, Batch, Ended, Gone, Past, past_of}

-- ------------------------------------------------------------ what a history tells

abbrev pub took_one : {B : Type 0} → ℕ → ℕ → Need B → Reply B → List B
took_one g c (Recv a d) (Batch b) = if (a == g) && (d == c) then b ∷ [] else []
took_one g c _ _ = []

-- the batches that were received from channel c of group g, in order
abbrev pub took : {B : Type 0} → ℕ → ℕ → Past B → List B
took g c [] = []
took g c (s ∷ h) = took_one g c s.0 s.1 ++ took g c h

abbrev pub end_one : {B : Type 0} → ℕ → ℕ → Need B → Reply B → Bool
end_one g c (Recv a d) Ended = (a == g) && (d == c)
end_one g c _ _ = false

-- the task was told that the channel has ended
abbrev pub has_end : {B : Type 0} → ℕ → ℕ → Past B → Bool
has_end g c [] = false
has_end g c (s ∷ h) = end_one g c s.0 s.1 || has_end g c h

abbrev pub part_one : {B : Type 0} → ℕ → Need B → Reply B → List B
part_one c (Send d b) Go = if d == c then b ∷ [] else []
part_one c _ _ = []

-- the parts that were sent to channel c of the task's own group, in order
abbrev pub parts_sent : {B : Type 0} → ℕ → Past B → List B
parts_sent c [] = []
parts_sent c (s ∷ h) = part_one c s.0 s.1 ++ parts_sent c h

-- the parts that task u with this history sent to channel c of group g
abbrev pub sent_to : {B : Type 0} → Shape → ℕ → ℕ → ℕ → Past B → List B
sent_to p u g c h = if is_group (task_at p u).sends g then parts_sent c h else []

abbrev pub gone_one : {B : Type 0} → ℕ → Need B → Reply B → Bool
gone_one c (Send d b) (Gone last) = (d == c) || last
gone_one c _ _ = false

-- the task was told that channel c of its own group isn't live
abbrev pub gone : {B : Type 0} → ℕ → Past B → Bool
gone c [] = false
gone c (s ∷ h) = gone_one c s.0 s.1 || gone c h

-- ------------------------------------------------------------ contents

-- of parts with their senders, those of one sender
abbrev pub by_sender : {B : Type 0} → ℕ → List (ℕ × B) → List B
by_sender u [] = []
by_sender u (x ∷ xs) = (if x.0 == u then x.1 ∷ [] else []) ++ by_sender u xs

abbrev pub parts_in : {B : Type 0} → List (ℕ × B) → List B
parts_in [] = []
parts_in (x ∷ xs) = x.1 ∷ parts_in xs

-- what the receiver t took of channel c of group g, and then what is left, is an interleaving of the parts sent there,
-- each sender's in its order; while the channel is live, it holds what is left, and after its end nothing is
pub record IsContents {B : Type 0} (p : Shape) (f : Frame B) (pasts : List (Past B)) (t g c : ℕ) : Type 0 where
  pub log : List (ℕ × B)  -- the parts in the order in which they were sent, each with its sender
  pub each : (u : ℕ) → by_sender u log ≡ sent_to p u g c (past_of pasts u)
  pub rest : List B
  pub all : took g c (past_of pasts t) ++ rest ≡ parts_in log
  pub live : (channel_of f g c).live ≡ true → (channel_of f g c).batches ≡ rest
  pub over : has_end g c (past_of pasts t) ≡ true → (rest ≡ []) × ((channel_of f g c).unended ≡ 0)

-- the histories tell what each channel holds; and where a task was told that a channel isn't live, it isn't
pub record IsTold {B : Type 0} (p : Shape) (f : Frame B) (pasts : List (Past B)) : Type 0 where
  pub contents : (t g c : ℕ) → receives_at p t g c ≡ true → IsContents p f pasts t g c
  pub gone : (u g c : ℕ) → is_group (task_at p u).sends g ≡ true → gone c (past_of pasts u) ≡ true → (channel_of f g c).live ≡ false
