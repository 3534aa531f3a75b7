-- Steps of frames commute with any map of batches.
use Rattle.std.proofs.Common.{ℕ, ◌≡◌, refl, sym, ap, ◌∙◌, cond, eqb, List, [], ◌∷◌, ◌++◌, map, length, get_or, Bool, true, false, ◌&&◌, not, Option, Some, None, option_map}
use Rattle.std.proofs.lemmas.List.{map-set, map-append}
use Rattle.run_journal.specs.declared.cause.Cause.{Cause}
use Rattle.run_journal.specs.declared.cause.Cause.TheVariants.{NoMemory}
use Rattle.run_journal.specs.declared.entry.Entry.{Entry}
use Rattle.run_journal.specs.declared.entry.EntryKind.{EntryKind}
use Rattle.run_journal.specs.declared.entry.EntryKind.TheVariants.{Claimed, Finished, Failed}
use Rattle.run_journal.specs.SameKind.{same_kind}
use Rattle.fair_pool.specs.Share.{Pool, can_spill, held_by, grants}
use Rattle.gate_channels.specs.Gate.{Channel, Gate, Moved, channel_at, is_empty, is_open, put, after_send, sent, after_taking, received, ended, dropped, held, awaited}
use Rattle.task_shape.specs.Shape.{Shape, task_at, width}
use Rattle.core_frame.specs.declared.place.Place.{Place}
use Rattle.core_frame.specs.declared.place.Place.TheVariants.{Woken}
use Rattle.core_frame.specs.Frame.{Frame, place_of, gate_of, channel_of, is_owned, open_channel, open_gate, opening}
use Rattle.core_frame.specs.Step.{Need, Scan, Recv, Send, Grow, Free, Writes, Finish, Fail, wake, put_gate, moved, with_pool, move_to, progress_is, failed, goes_on, drops, ends_in, ends, finished, Made, made_send, made_send_to, made_recv, made_grow, made, may_fail, cause_of, is_yielded, claimed, may_claim, owner_step, claim_step, is_over, frame_step, next_frame, frame_replay}
use Rattle.core_frame.specs.Carried.{map_channel, map_gate, map_frame, map_need, map_step}
use Rattle.core_frame.proofs.Lookups.{tabulate_map}
use Rattle.core_frame.proofs.Maps.{channel_map, gate_map, empty_map, open_map}

module _ {A B : Type 0} (m : A → B) where
  -- ------------------------------------------------------------ calls of a gate
  abbrev pub map_moved : Moved A → Moved B
  map_moved x = record { gate = map_gate m x.gate; woken = x.woken }

  put_map : (g : Gate A) (c : ℕ) (ch : Channel A) → put (map_gate m g) c (map_channel m ch) ≡ map_gate m (put g c ch)
  put_map g c ch = ap (λ chs. record { channels = chs; queue = g.queue }) (sym (map-set (map_channel m) g.channels c ch))

  send_map : (ch : Channel A) (b : A) → after_send (map_channel m ch) (m b) ≡ map_channel m (after_send ch b)
  send_map ch b = ap (λ bs. record { batches = bs; live = ch.live; unended = ch.unended; waiting = None }) (sym (map-append m ch.batches (b ∷ [])))

  pub sent_map : (g : Gate A) (c : ℕ) (b : A) → sent (map_gate m g) c (m b) ≡ map_moved (sent g c b)
  unfolding sent
  sent_map g c b = rw (channel_map m g c, send_map (channel_at g c) b, put_map g c (after_send (channel_at g c) b)) refl

  taking_map : (g : Gate A) (c : ℕ) (bs : List A) → after_taking (map_gate m g) c (map m bs) ≡ map_moved (after_taking g c bs)
  taking_map g c [] = refl
  taking_map g c (b ∷ []) = rw (channel_map m g c) (ap (λ chs. record { gate = record { channels = chs; queue = [] }; woken = g.queue })
      (sym (map-set (map_channel m) g.channels c (record { batches = []; live = (channel_at g c).live; unended = (channel_at g c).unended; waiting = (channel_at g c).waiting }))))
  taking_map g c (b ∷ (b2 ∷ bs)) = rw (channel_map m g c) (ap (λ z. record { gate = z; woken = [] })
      (put_map g c (record { batches = b2 ∷ bs; live = (channel_at g c).live; unended = (channel_at g c).unended; waiting = (channel_at g c).waiting })))

  pub received_map : (g : Gate A) (c : ℕ) → received (map_gate m g) c ≡ map_moved (received g c)
  unfolding received
  received_map g c = rw (channel_map m g c) (taking_map g c (channel_at g c).batches)

  pub ended_map : (g : Gate A) (c : ℕ) → ended (map_gate m g) c ≡ map_moved (ended g c)
  unfolding ended
  ended_map g c = rw (channel_map m g c, empty_map m (channel_at g c).batches) (ap (λ z. record { gate = z; woken = (ended g c).woken }) (put_map g c _))

  pub dropped_map : (g : Gate A) (c : ℕ) → dropped (map_gate m g) c ≡ map_moved (dropped g c)
  unfolding dropped
  dropped_map g c = rw (channel_map m g c) (ap (λ chs. record { gate = record { channels = chs; queue = [] }; woken = g.queue }) (sym (map-set (map_channel m) g.channels c _)))

  pub held_map : (g : Gate A) (t : ℕ) → held (map_gate m g) t ≡ map_gate m (held g t)
  unfolding held
  held_map g t = refl

  pub awaited_map : (g : Gate A) (c t : ℕ) → awaited (map_gate m g) c t ≡ map_gate m (awaited g c t)
  unfolding awaited
  awaited_map g c t = rw (channel_map m g c) (put_map g c _)

  -- ------------------------------------------------------------ changes of a frame
  put_gate_map : (f : Frame A) (g : ℕ) (x : Gate A) → put_gate (map_frame m f) g (map_gate m x) ≡ map_frame m (put_gate f g x)
  unfolding put_gate
  put_gate_map f g x = ap (λ gs. record { gates = gs; pool = f.pool; queue = f.queue; places = f.places; progress = f.progress; failure = f.failure }) (sym (map-set (map_gate m) f.gates g x))

  wake_map : (ts : List ℕ) (f : Frame A) → wake ts (map_frame m f) ≡ map_frame m (wake ts f)
  unfolding wake
  wake_map ts f = refl

  moved_map : (f : Frame A) (g : ℕ) (x : Moved A) → moved (map_frame m f) g (map_moved x) ≡ map_frame m (moved f g x)
  moved_map f g x = ap (wake x.woken) (put_gate_map f g x.gate) ∙ wake_map x.woken (put_gate f g x.gate)

  move_map : (f : Frame A) (t : ℕ) (q : Place) (queue : List ℕ) → move_to (map_frame m f) t q queue ≡ map_frame m (move_to f t q queue)
  unfolding move_to
  move_map f t q queue = refl

  goes_map : (f : Frame A) (t : ℕ) → goes_on (map_frame m f) t ≡ map_frame m (goes_on f t)
  unfolding progress_is
  goes_map f t = refl

  failed_map : (f : Frame A) (cause : Cause) → failed (map_frame m f) cause ≡ map_frame m (failed f cause)
  unfolding failed
  failed_map f cause = refl

  pool_map : (f : Frame A) (x : Pool) → with_pool (map_frame m f) x ≡ map_frame m (with_pool f x)
  unfolding with_pool
  pool_map f x = refl

  drops_map : (xs : List (ℕ × ℕ)) (f : Frame A) → drops xs (map_frame m f) ≡ map_frame m (drops xs f)
  drops_map [] f = refl
  drops_map (x ∷ xs) f = rw (gate_map m f x.0, dropped_map (gate_of f x.0) x.1, moved_map f x.0 (dropped (gate_of f x.0) x.1))
      (drops_map xs (moved f x.0 (dropped (gate_of f x.0) x.1)))

  ends_in_map : (g : ℕ) (cs : List ℕ) (f : Frame A) → ends_in g cs (map_frame m f) ≡ map_frame m (ends_in g cs f)
  ends_in_map g [] f = refl
  ends_in_map g (c ∷ cs) f = rw (gate_map m f g, ended_map (gate_of f g) c, moved_map f g (ended (gate_of f g) c))
      (ends_in_map g cs (moved f g (ended (gate_of f g) c)))

  ends_map : (o : Option ℕ) (cs : List ℕ) (f : Frame A) → ends o cs (map_frame m f) ≡ map_frame m (ends o cs f)
  ends_map None cs f = refl
  ends_map (Some g) cs f = ends_in_map g cs f

  finished_map : (p : Shape) (f : Frame A) (t : ℕ) → finished p (map_frame m f) t ≡ map_frame m (finished p f t)
  unfolding with_pool move_to
  finished_map p f t = rw (drops_map (task_at p t).receives f, ends_map (task_at p t).sends (task_at p t).targets (drops (task_at p t).receives f)) refl

  -- ------------------------------------------------------------ the entry that a need and the frame give
  abbrev pub map_made : Made A → Made B
  map_made x = record { kind = x.kind; frame = map_frame m x.frame }

  send_made : (f : Frame A) (t g c : ℕ) (b : A) (live opened : Bool) → made_send (map_frame m f) t g c (m b) live opened ≡ map_made (made_send f t g c b live opened)
  unfolding progress_is move_to
  send_made f t g c b false opened = refl
  send_made f t g c b true true = rw (gate_map m f g, sent_map (gate_of f g) c b, moved_map f g (sent (gate_of f g) c b)) refl
  send_made f t g c b true false = rw (gate_map m f g, held_map (gate_of f g) t, put_gate_map f g (held (gate_of f g) t)) refl

  send_to_made : (f : Frame A) (t c : ℕ) (b : A) (o : Option ℕ) → made_send_to (map_frame m f) t o c (m b) ≡ map_made (made_send_to f t o c b)
  unfolding progress_is
  send_to_made f t c b None = refl
  send_to_made f t c b (Some g) = rw (gate_map m f g, channel_map m (gate_of f g) c, open_map m (gate_of f g).channels) (send_made f t g c b (channel_of f g c).live (is_open (gate_of f g).channels))

  recv_made : (f : Frame A) (t g c : ℕ) (empty over : Bool) → made_recv (map_frame m f) t g c empty over ≡ map_made (made_recv f t g c empty over)
  unfolding progress_is move_to
  recv_made f t g c false over = rw (gate_map m f g, received_map (gate_of f g) c, moved_map f g (received (gate_of f g) c)) refl
  recv_made f t g c true true = refl
  recv_made f t g c true false = rw (gate_map m f g, awaited_map (gate_of f g) c t, put_gate_map f g (awaited (gate_of f g) c t)) refl

  grow_made : (f : Frame A) (t c bytes : ℕ) (granted gives : Bool) → made_grow (map_frame m f) t c bytes granted gives ≡ map_made (made_grow f t c bytes granted gives)
  unfolding progress_is with_pool failed
  grow_made f t c bytes true gives = refl
  grow_made f t c bytes false true = refl
  grow_made f t c bytes false false = refl

  made_map : (p : Shape) (f : Frame A) (t : ℕ) (need : Need A) → made p (map_frame m f) t (map_need m need) ≡ map_made (made p f t need)
  unfolding progress_is with_pool failed
  made_map p f t Scan = refl
  made_map p f t (Recv g c) = rw (gate_map m f g, channel_map m (gate_of f g) c, empty_map m (channel_of f g c).batches)
      (recv_made f t g c (is_empty (channel_of f g c).batches) (eqb (channel_of f g c).unended 0))
  made_map p f t (Send c b) = send_to_made f t c b (task_at p t).sends
  made_map p f t (Grow c bytes) = grow_made f t c bytes (grants f.pool c bytes) (can_spill f.pool c && not (eqb (held_by f.pool c) 0))
  made_map p f t (Free c bytes) = refl
  made_map p f t Writes = refl
  made_map p f t Finish = ap (λ z. record { kind = Finished; frame = z }) (finished_map p f t)
  made_map p f t (Fail cause) = refl

  -- ------------------------------------------------------------ steps
  chosen : {X Y : Type 0} (h : X → Y) (b : Bool) (x y : Option X) (u v : Option Y) → u ≡ option_map h x → v ≡ option_map h y → cond b u v ≡ option_map h (cond b x y)
  chosen h true x y u v e d = e
  chosen h false x y u v e d = d

  owner_map : (p : Shape) (f : Frame A) (t : ℕ) (k : EntryKind) (need : Need A) → owner_step p (map_frame m f) t k (map_need m need) ≡ option_map (map_frame m) (owner_step p f t k need)
  owner_map p f t k need = chosen (map_frame m) (may_fail k) _ _ _ _ (ap Some (failed_map f (cause_of k)))
      (chosen (map_frame m) (is_yielded k && get_or f.progress t false) _ _ _ _ (ap Some (move_map f t Woken (f.queue ++ t ∷ [])))
      (rw (made_map p f t need) (chosen (map_frame m) (same_kind (made p f t need).kind k) _ _ _ _ refl refl)))

  claimed_map : (f : Frame A) (t w : ℕ) → claimed (map_frame m f) t w ≡ map_frame m (claimed f t w)
  unfolding progress_is move_to
  claimed_map f t w = refl

  claim_map : (f : Frame A) (t w : ℕ) (k : EntryKind) → claim_step (map_frame m f) t w k ≡ option_map (map_frame m) (claim_step f t w k)
  claim_map f t w Claimed = chosen (map_frame m) (may_claim f t w) _ _ _ _ (ap Some (claimed_map f t w)) refl
  claim_map f t w (Failed NoMemory) = chosen (map_frame m) (may_claim f t w) _ _ _ _ (ap Some (failed_map f NoMemory)) refl
  claim_map f t w _ = refl

  pub step_map : (p : Shape) (f : Frame A) (e : Entry) (need : Need A) → frame_step p (map_frame m f) e (map_need m need) ≡ option_map (map_frame m) (frame_step p f e need)
  step_map p f e need = chosen (map_frame m) (is_over f) _ _ _ _ refl
      (chosen (map_frame m) (is_owned e.worker (place_of f e.task)) _ _ _ _ (owner_map p f e.task e.kind need) (claim_map f e.task e.worker e.kind))

  next_map : (p : Shape) (o : Option (Frame A)) (s : Entry × Need A) → next_frame p (option_map (map_frame m) o) (map_step m s) ≡ option_map (map_frame m) (next_frame p o s)
  next_map p None s = refl
  next_map p (Some f) s = step_map p f s.0 s.1

  pub replay_map : (p : Shape) (o : Option (Frame A)) (steps : List (Entry × Need A)) → frame_replay p (option_map (map_frame m) o) (map (map_step m) steps) ≡ option_map (map_frame m) (frame_replay p o steps)
  replay_map p o [] = refl
  replay_map p o (s ∷ steps) = ap (λ z. frame_replay p z (map (map_step m) steps)) (next_map p o s) ∙ replay_map p (next_frame p o s) steps

  -- ------------------------------------------------------------ the opening
  open_gate_map : (p : Shape) (g : ℕ) → map_gate m (open_gate p g) ≡ open_gate p g
  open_gate_map p g = ap (λ chs. record { channels = chs; queue = [] }) (tabulate_map (map_channel m) (width p g) (open_channel p g) (open_channel p g) (λ c. refl))

  pub opening_map : (p : Shape) (limit : ℕ) → map_frame m (opening p limit) ≡ opening p limit
  opening_map p limit = rw (tabulate_map (map_gate m) (length p.widths) (open_gate p) (open_gate p) (open_gate_map p)) refl
