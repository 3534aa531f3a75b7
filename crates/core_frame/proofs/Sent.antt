-- What holds of each batch that is sent to a channel holds of each that is in it.
use Rattle.std.proofs.Common.{ℕ, ◌≡◌, refl, List, [], ◌∷◌, length, get_or, Bool, true, false, ◌&&◌, Option, Some, None, IfSome}
use Rattle.std.specs.List.{AllByRecursion}
use Rattle.run_journal.specs.declared.entry.Entry.{Entry}
use Rattle.run_journal.specs.declared.entry.EntryKind.{EntryKind}
use Rattle.run_journal.specs.declared.cause.Cause.TheVariants.{NoMemory}
use Rattle.run_journal.specs.declared.entry.EntryKind.TheVariants.{Claimed, Failed}
use Rattle.run_journal.specs.SameKind.{same_kind}
use Rattle.gate_channels.specs.Gate.{Channel, Gate, Moved, no_channel, no_gate, channel_at, put, after_send, sent, after_taking, received, ended, dropped, held, awaited}
use Rattle.task_shape.specs.Shape.{Shape, task_at, width}
use Rattle.core_frame.specs.Frame.{Frame, place_of, gate_of, is_owned, open_channel, open_gate, opening}
use Rattle.core_frame.specs.Step.{Need, Scan, Recv, Send, Grow, Free, Writes, Finish, Fail, wake, put_gate, moved, with_pool, move_to, progress_is, failed, drops, ends_in, ends, finished, made_send, made_send_to, made_recv, made_grow, made, may_fail, is_yielded, may_claim, owner_step, claim_step, is_over, frame_step, next_frame, frame_replay}
use Rattle.core_frame.specs.Sent.{SendFits, SendsFit, ChannelsFit}
use Rattle.core_frame.proofs.Lookups.{within_if, set_at, tabulate_at, all_append}

module _ {B : Type 0} (P : ℕ → ℕ → B → Type 0) where
  -- ------------------------------------------------------------ calls of the gate of group g
  abbrev pub GateFits : ℕ → Gate B → Type 0
  GateFits g x = (c : ℕ) → AllByRecursion (P g c) (channel_at x c).batches

  put_fits : (g : ℕ) (x : Gate B) (c : ℕ) (ch : Channel B) → GateFits g x → AllByRecursion (P g c) ch.batches → GateFits g (put x c ch)
  put_fits g x c ch h n d = set_at (λ k (y : Channel B). AllByRecursion (P g k) y.batches) x.channels c ch no_channel d n (h d)

  sent_fits : (g : ℕ) (x : Gate B) (c : ℕ) (b : B) → GateFits g x → P g c b → GateFits g (sent x c b).gate
  unfolding sent
  sent_fits g x c b h n = put_fits g x c (after_send (channel_at x c) b) h (all_append (P g c) (channel_at x c).batches (b ∷ []) (h c) (n, tt))

  taking_fits : (g : ℕ) (x : Gate B) (c : ℕ) (bs : List B) → GateFits g x → AllByRecursion (P g c) bs → GateFits g (after_taking x c bs).gate
  taking_fits g x c [] h n = h
  taking_fits g x c (b ∷ []) h n = put_fits g x c _ h tt
  taking_fits g x c (b ∷ (b2 ∷ bs)) h n = put_fits g x c _ h n.1

  received_fits : (g : ℕ) (x : Gate B) (c : ℕ) → GateFits g x → GateFits g (received x c).gate
  unfolding received
  received_fits g x c h = taking_fits g x c (channel_at x c).batches h (h c)

  ended_fits : (g : ℕ) (x : Gate B) (c : ℕ) → GateFits g x → GateFits g (ended x c).gate
  unfolding ended
  ended_fits g x c h = put_fits g x c _ h (h c)

  dropped_fits : (g : ℕ) (x : Gate B) (c : ℕ) → GateFits g x → GateFits g (dropped x c).gate
  unfolding dropped
  dropped_fits g x c h = put_fits g x c _ h tt

  held_fits : (g : ℕ) (x : Gate B) (t : ℕ) → GateFits g x → GateFits g (held x t)
  unfolding held
  held_fits g x t h = h

  awaited_fits : (g : ℕ) (x : Gate B) (c t : ℕ) → GateFits g x → GateFits g (awaited x c t)
  unfolding awaited
  awaited_fits g x c t h = put_fits g x c _ h (h c)

  -- ------------------------------------------------------------ changes of a frame
  put_gate_fits : (f : Frame B) (g : ℕ) (x : Gate B) → ChannelsFit P f → GateFits g x → ChannelsFit P (put_gate f g x)
  unfolding put_gate
  put_gate_fits f g x h n k = set_at GateFits f.gates g x no_gate k n (h k)

  moved_fits : (f : Frame B) (g : ℕ) (x : Moved B) → ChannelsFit P f → GateFits g x.gate → ChannelsFit P (moved f g x)
  unfolding wake
  moved_fits f g x h n = put_gate_fits f g x.gate h n

  drops_fit : (xs : List (ℕ × ℕ)) (f : Frame B) → ChannelsFit P f → ChannelsFit P (drops xs f)
  drops_fit [] f h = h
  drops_fit (x ∷ xs) f h = drops_fit xs _ (moved_fits f x.0 (dropped (gate_of f x.0) x.1) h (dropped_fits x.0 (gate_of f x.0) x.1 (h x.0)))

  ends_in_fit : (g : ℕ) (cs : List ℕ) (f : Frame B) → ChannelsFit P f → ChannelsFit P (ends_in g cs f)
  ends_in_fit g [] f h = h
  ends_in_fit g (c ∷ cs) f h = ends_in_fit g cs _ (moved_fits f g (ended (gate_of f g) c) h (ended_fits g (gate_of f g) c (h g)))

  ends_fit : (o : Option ℕ) (cs : List ℕ) (f : Frame B) → ChannelsFit P f → ChannelsFit P (ends o cs f)
  ends_fit None cs f h = h
  ends_fit (Some g) cs f h = ends_in_fit g cs f h

  finished_fits : (p : Shape) (f : Frame B) (t : ℕ) → ChannelsFit P f → ChannelsFit P (finished p f t)
  unfolding with_pool move_to
  finished_fits p f t h = ends_fit (task_at p t).sends (task_at p t).targets _ (drops_fit (task_at p t).receives f h)

  -- ------------------------------------------------------------ entries
  send_fits : (f : Frame B) (t g c : ℕ) (b : B) (live opened : Bool) → P g c b → ChannelsFit P f → ChannelsFit P (made_send f t g c b live opened).frame
  unfolding progress_is move_to
  send_fits f t g c b false opened n h = h
  send_fits f t g c b true true n h = moved_fits f g (sent (gate_of f g) c b) h (sent_fits g (gate_of f g) c b (h g) n)
  send_fits f t g c b true false n h = put_gate_fits f g (held (gate_of f g) t) h (held_fits g (gate_of f g) t (h g))

  send_to_fits : (f : Frame B) (t c : ℕ) (b : B) (o : Option ℕ) → ((g : ℕ) → o ≡ Some g → P g c b) → ChannelsFit P f → ChannelsFit P (made_send_to f t o c b).frame
  unfolding progress_is
  send_to_fits f t c b None n h = h
  send_to_fits f t c b (Some g) n h = send_fits f t g c b _ _ (n g refl) h

  recv_fits : (f : Frame B) (t g c : ℕ) (empty over : Bool) → ChannelsFit P f → ChannelsFit P (made_recv f t g c empty over).frame
  unfolding progress_is move_to
  recv_fits f t g c false over h = moved_fits f g (received (gate_of f g) c) h (received_fits g (gate_of f g) c (h g))
  recv_fits f t g c true true h = h
  recv_fits f t g c true false h = put_gate_fits f g (awaited (gate_of f g) c t) h (awaited_fits g (gate_of f g) c t (h g))

  grow_fits : (f : Frame B) (t c bytes : ℕ) (granted gives : Bool) → ChannelsFit P f → ChannelsFit P (made_grow f t c bytes granted gives).frame
  unfolding progress_is with_pool failed
  grow_fits f t c bytes true gives h = h
  grow_fits f t c bytes false true h = h
  grow_fits f t c bytes false false h = h

  made_fits : (p : Shape) (f : Frame B) (t : ℕ) (need : Need B) → SendFits p P t need → ChannelsFit P f → ChannelsFit P (made p f t need).frame
  unfolding progress_is with_pool failed
  made_fits p f t Scan n h = h
  made_fits p f t (Recv g c) n h = recv_fits f t g c _ _ h
  made_fits p f t (Send c b) n h = send_to_fits f t c b (task_at p t).sends n h
  made_fits p f t (Grow c bytes) n h = grow_fits f t c bytes _ _ h
  made_fits p f t (Free c bytes) n h = h
  made_fits p f t Writes n h = h
  made_fits p f t Finish n h = finished_fits p f t h
  made_fits p f t (Fail cause) n h = h

  -- ------------------------------------------------------------ steps
  owner_fits : (p : Shape) (f : Frame B) (t : ℕ) (k : EntryKind) (need : Need B) → SendFits p P t need → ChannelsFit P f → IfSome (owner_step p f t k need) (ChannelsFit P)
  unfolding failed move_to
  owner_fits p f t k need n h = within_if (ChannelsFit P) (may_fail k) _ _ (λ _. h)
      (λ _. within_if (ChannelsFit P) (is_yielded k && get_or f.progress t false) _ _ (λ _. h)
      (λ _. within_if (ChannelsFit P) (same_kind (made p f t need).kind k) _ _ (λ _. made_fits p f t need n h) (λ _. tt)))

  claim_fits : (f : Frame B) (t w : ℕ) (k : EntryKind) → ChannelsFit P f → IfSome (claim_step f t w k) (ChannelsFit P)
  unfolding failed move_to progress_is
  claim_fits f t w Claimed h = within_if (ChannelsFit P) (may_claim f t w) _ _ (λ _. h) (λ _. tt)
  claim_fits f t w (Failed NoMemory) h = within_if (ChannelsFit P) (may_claim f t w) _ _ (λ _. h) (λ _. tt)
  claim_fits f t w _ h = tt

  pub step_fits : (p : Shape) (f : Frame B) (e : Entry) (need : Need B) → SendFits p P e.task need → ChannelsFit P f → IfSome (frame_step p f e need) (ChannelsFit P)
  step_fits p f e need n h = within_if (ChannelsFit P) (is_over f) _ _ (λ _. tt)
      (λ _. within_if (ChannelsFit P) (is_owned e.worker (place_of f e.task)) _ _ (λ _. owner_fits p f e.task e.kind need n h) (λ _. claim_fits f e.task e.worker e.kind h))

  next_fits : (p : Shape) (o : Option (Frame B)) (s : Entry × Need B) → SendFits p P (s.0).task s.1 → IfSome o (ChannelsFit P) → IfSome (next_frame p o s) (ChannelsFit P)
  next_fits p None s n h = tt
  next_fits p (Some f) s n h = step_fits p f s.0 s.1 n h

  pub replay_fits : (p : Shape) (o : Option (Frame B)) (steps : List (Entry × Need B)) → SendsFit p P steps → IfSome o (ChannelsFit P) → IfSome (frame_replay p o steps) (ChannelsFit P)
  replay_fits p o [] n h = h
  replay_fits p o (s ∷ steps) n h = replay_fits p (next_frame p o s) steps n.1 (next_fits p o s n.0 h)

  pub opening_fits : (p : Shape) (limit : ℕ) → ChannelsFit P (opening p limit)
  opening_fits p limit g = tabulate_at GateFits (length p.widths) (open_gate p) no_gate g
      (λ j c. tabulate_at (λ k (y : Channel B). AllByRecursion (P j k) y.batches) (width p j) (open_channel p j) no_channel c (λ k. tt) tt) (λ c. tt)
