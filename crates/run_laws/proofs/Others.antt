-- Another worker's steps leave an owned task where it is.
use Rattle.std.proofs.Common.{ℕ, ◌≡◌, ◌≢◌, inl, inr, refl, sym, ap, ◌∙◌, subst, cond, List, [], ◌∷◌, ◌++◌, map, get_or, set, Bool, true, false, ◌&&◌, Option, Some, None, arith, eq-eqb, ne_eqb, IfSome}
use Rattle.run_journal.specs.declared.entry.Entry.{Entry}
use Rattle.run_journal.specs.declared.entry.EntryKind.{EntryKind}
use Rattle.run_journal.specs.declared.cause.Cause.TheVariants.{NoMemory}
use Rattle.run_journal.specs.declared.entry.EntryKind.TheVariants.{Claimed, Failed}
use Rattle.run_journal.specs.SameKind.{same_kind}
use Rattle.task_shape.specs.Numbers.{one, count}
use Rattle.gate_channels.specs.Gate.{Channel, Gate, Moved, no_channel, no_gate, channel_at, one_of, put, after_send, sent, after_taking, received, ends_last, woken_by_end, ended, dropped, held, awaited}
use Rattle.task_shape.proofs.Numbers.{one_same, one_no, same_or_not, count-append}
use Rattle.task_shape.specs.Shape.{Shape, task_at}
use Rattle.core_frame.specs.declared.place.Place.{Place}
use Rattle.core_frame.specs.declared.place.Place.TheVariants.{Woken, OwnedBy, AtGate, AtChannel, Done}
use Rattle.core_frame.specs.Frame.{Frame, place_of, gate_of, channel_of, is_owned}
use Rattle.core_frame.specs.Lawful.{IsLawful, is_at}
use Rattle.core_frame.specs.Step.{Need, Scan, Recv, Send, Grow, Free, Writes, Finish, Fail, wake_all, wake, put_gate, moved, with_pool, move_to, progress_is, failed, drops, ends_in, ends, finished, made_send, made_send_to, made_recv, made_grow, made, may_fail, is_yielded, may_claim, owner_step, claim_step, is_over, frame_step, next_frame, frame_replay}
use Rattle.history_laws.specs.Histories.{Reply, Past, Run, past_of, pasts_after, run_after, next_run, run_replay}
use Rattle.turn_cell.specs.Acts.{entries_by}
use Rattle.core_frame.proofs.Lists.{read_other, all_after}
use Rattle.core_frame.proofs.Lookups.{within_if}

-- the worker has the task: it is nowhere in a waiting list; and whether it has made progress
pub record Has {B : Type 0} (w t : ℕ) (made : Bool) (f : Frame B) : Type 0 where
  pub place : place_of f t ≡ OwnedBy w
  pub progress : get_or f.progress t false ≡ made
  pub gates : (g : ℕ) → count t (gate_of f g).queue ≡ 0
  pub channels : (g c : ℕ) → (channel_of f g c).waiting ≢ Some t

pub has_lawful : {B : Type 0} (p : Shape) (f : Frame B) (w t : ℕ) → IsLawful p f → place_of f t ≡ OwnedBy w → Has w t (get_or f.progress t false) f
unfolding is_at
has_lawful p f w t k at = record {
  place = at;
  progress = refl;
  gates = λ g. k.frame.located.each (AtGate g) refl t ∙ ap (is_at (AtGate g)) at;
  channels = λ g c e.
      let n : count t (one_of (channel_of f g c).waiting) ≡ 0 = k.frame.located.each (AtChannel g c) refl t ∙ ap (is_at (AtChannel g c)) at in
      let m : count t (t ∷ []) ≡ 0 = sym (ap (λ o. count t (one_of o)) e) ∙ n in
      let one_t : one t t ≡ 1 = one_same t in
      absurd (omega arith);
}

no_one : (t : ℕ) (o : Option ℕ) → o ≢ Some t → count t (one_of o) ≡ 0
no_one t None n = refl
no_one t (Some u) n = let z : one u t ≡ 0 = one_no u t (λ e. n (ap Some e)) in omega arith

none_or : (t : ℕ) (b : Bool) (o : Option ℕ) → o ≢ Some t → cond b None o ≢ Some t
none_or t true o n e = cc
none_or t false o n e = n e

or_none : (t : ℕ) (b : Bool) (o : Option ℕ) → o ≢ Some t → cond b o None ≢ Some t
or_none t true o n e = n e
or_none t false o n e = cc

woken_other : (t : ℕ) (ts : List ℕ) (qs : List Place) → count t ts ≡ 0 → get_or (wake_all ts qs) t Done ≡ get_or qs t Done
woken_other t [] qs n = refl
woken_other t (u ∷ ts) qs n = woken_other t ts (set qs u Woken) (omega arith)
    ∙ read_other qs u t Woken Done (λ e. let z : one u t ≡ 1 = ap (λ k. one k t) e ∙ one_same t in absurd (omega arith))

module _ {B : Type 0} (t : ℕ) where
  -- ------------------------------------------------------------ calls of a gate where the task isn't
  abbrev pub IsClear : Gate B → Type 0
  IsClear x = (count t x.queue ≡ 0) × ((c : ℕ) → (channel_at x c).waiting ≢ Some t)

  -- the same after the call, which doesn't wake the task
  abbrev pub Leaves : Moved B → Type 0
  Leaves m = IsClear m.gate × (count t m.woken ≡ 0)

  put_clear : (x : Gate B) (c : ℕ) (ch : Channel B) → IsClear x → ch.waiting ≢ Some t → IsClear (put x c ch)
  put_clear x c ch h n = (h.0, λ d. all_after (λ (y : Channel B). y.waiting ≢ Some t) x.channels c ch no_channel d n (h.1 d))

  woken_clear : (x : Gate B) (c : ℕ) (ch : Channel B) → IsClear x → ch.waiting ≢ Some t → (d : ℕ) → (channel_at (put x c ch) d).waiting ≢ Some t
  woken_clear x c ch h n = (put_clear x c ch h n).1

  pub sent_clear : (x : Gate B) (c : ℕ) (b : B) → IsClear x → Leaves (sent x c b)
  unfolding sent
  sent_clear x c b h = (put_clear x c (after_send (channel_at x c) b) h (λ e. cc), no_one t (channel_at x c).waiting (h.1 c))

  taking_clear : (x : Gate B) (c : ℕ) (bs : List B) → IsClear x → Leaves (after_taking x c bs)
  taking_clear x c [] h = (h, refl)
  taking_clear x c (b ∷ []) h = ((refl, woken_clear x c _ h (h.1 c)), h.0)
  taking_clear x c (b ∷ (b2 ∷ bs)) h = (put_clear x c _ h (h.1 c), refl)

  pub received_clear : (x : Gate B) (c : ℕ) → IsClear x → Leaves (received x c)
  unfolding received
  received_clear x c h = taking_clear x c (channel_at x c).batches h

  ended_clear : (x : Gate B) (c : ℕ) → IsClear x → Leaves (ended x c)
  unfolding ended
  ended_clear x c h = (
    put_clear x c _ h (none_or t (ends_last (channel_at x c)) (channel_at x c).waiting (h.1 c)),
    no_one t (woken_by_end (channel_at x c)) (or_none t (ends_last (channel_at x c)) (channel_at x c).waiting (h.1 c)),
  )

  dropped_clear : (x : Gate B) (c : ℕ) → IsClear x → Leaves (dropped x c)
  unfolding dropped
  dropped_clear x c h = ((refl, woken_clear x c _ h (h.1 c)), h.0)

  held_clear : (x : Gate B) (u : ℕ) → u ≢ t → IsClear x → IsClear (held x u)
  unfolding held
  held_clear x u n h = (count-append t x.queue (u ∷ []) ∙ (let z : one u t ≡ 0 = one_no u t n in let y : count t x.queue ≡ 0 = h.0 in omega arith), h.1)

  awaited_clear : (x : Gate B) (c u : ℕ) → u ≢ t → IsClear x → IsClear (awaited x c u)
  unfolding awaited
  awaited_clear x c u n h = put_clear x c _ h (λ e. n (let d : Some u ≡ Some t = e in cc))

  -- ------------------------------------------------------------ changes of a frame
  module _ (w : ℕ) (b : Bool) where
    pub clear_at : (f : Frame B) (g : ℕ) → Has w t b f → IsClear (gate_of f g)
    clear_at f g h = (h.gates g, h.channels g)

    pub put_has : (f : Frame B) (g : ℕ) (x : Gate B) → Has w t b f → IsClear x → Has w t b (put_gate f g x)
    unfolding put_gate
    put_has f g x h n = record {
      place = h.place;
      progress = h.progress;
      gates = λ k. all_after (λ (y : Gate B). count t y.queue ≡ 0) f.gates g x no_gate k n.0 (h.gates k);
      channels = λ k c. all_after (λ (y : Gate B). (channel_at y c).waiting ≢ Some t) f.gates g x no_gate k (n.1 c) (h.channels k c);
    }

    wake_has : (ts : List ℕ) (f : Frame B) → Has w t b f → count t ts ≡ 0 → Has w t b (wake ts f)
    unfolding wake
    wake_has ts f h n = record { place = woken_other t ts f.places n ∙ h.place; progress = h.progress; gates = h.gates; channels = h.channels }

    pub moved_has : (f : Frame B) (g : ℕ) (m : Moved B) → Has w t b f → Leaves m → Has w t b (moved f g m)
    moved_has f g m h n = wake_has m.woken (put_gate f g m.gate) (put_has f g m.gate h n.0) n.1

    pub pool_has : (f : Frame B) (x : _) → Has w t b f → Has w t b (with_pool f x)
    unfolding with_pool
    pool_has f x h = record { place = h.place; progress = h.progress; gates = h.gates; channels = h.channels }

    move_has : (f : Frame B) (u : ℕ) (q : Place) (queue : List ℕ) → u ≢ t → Has w t b f → Has w t b (move_to f u q queue)
    unfolding move_to
    move_has f u q queue n h = record { place = read_other f.places u t q Done n ∙ h.place; progress = h.progress; gates = h.gates; channels = h.channels }

    progress_has : (f : Frame B) (u : ℕ) (made : Bool) → u ≢ t → Has w t b f → Has w t b (progress_is f u made)
    unfolding progress_is
    progress_has f u made n h = record { place = h.place; progress = read_other f.progress u t made false n ∙ h.progress; gates = h.gates; channels = h.channels }

    failed_has : (f : Frame B) (cause : _) → Has w t b f → Has w t b (failed f cause)
    unfolding failed
    failed_has f cause h = record { place = h.place; progress = h.progress; gates = h.gates; channels = h.channels }

    drops_has : (xs : List (ℕ × ℕ)) (f : Frame B) → Has w t b f → Has w t b (drops xs f)
    drops_has [] f h = h
    drops_has (x ∷ xs) f h = drops_has xs _ (moved_has f x.0 _ h (dropped_clear (gate_of f x.0) x.1 (clear_at f x.0 h)))

    ends_in_has : (g : ℕ) (cs : List ℕ) (f : Frame B) → Has w t b f → Has w t b (ends_in g cs f)
    ends_in_has g [] f h = h
    ends_in_has g (c ∷ cs) f h = ends_in_has g cs _ (moved_has f g _ h (ended_clear (gate_of f g) c (clear_at f g h)))

    ends_has : (o : Option ℕ) (cs : List ℕ) (f : Frame B) → Has w t b f → Has w t b (ends o cs f)
    ends_has None cs f h = h
    ends_has (Some g) cs f h = ends_in_has g cs f h

    -- before the task that ends is at its last place
    pub ending_has : (p : Shape) (f : Frame B) (u : ℕ) → Has w t b f → Has w t b (ends (task_at p u).sends (task_at p u).targets (drops (task_at p u).receives f))
    ending_has p f u h = ends_has (task_at p u).sends (task_at p u).targets _ (drops_has (task_at p u).receives f h)

    finished_has : (p : Shape) (f : Frame B) (u : ℕ) → u ≢ t → Has w t b f → Has w t b (finished p f u)
    finished_has p f u n h = move_has _ u Done _ n (pool_has _ _ (ending_has p f u h))

    -- ------------------------------------------------------------ entries
    send_has : (f : Frame B) (u g c : ℕ) (x : B) (live opened : Bool) → u ≢ t → Has w t b f → Has w t b (made_send f u g c x live opened).frame
    send_has f u g c x false opened n h = progress_has f u true n h
    send_has f u g c x true true n h = progress_has _ u true n (moved_has f g _ h (sent_clear (gate_of f g) c x (clear_at f g h)))
    send_has f u g c x true false n h = move_has _ u (AtGate g) _ n (put_has f g _ h (held_clear (gate_of f g) u n (clear_at f g h)))

    send_to_has : (f : Frame B) (u c : ℕ) (x : B) (o : Option ℕ) → u ≢ t → Has w t b f → Has w t b (made_send_to f u o c x).frame
    send_to_has f u c x None n h = progress_has f u true n h
    send_to_has f u c x (Some g) n h = send_has f u g c x _ _ n h

    recv_has : (f : Frame B) (u g c : ℕ) (empty over : Bool) → u ≢ t → Has w t b f → Has w t b (made_recv f u g c empty over).frame
    recv_has f u g c false over n h = progress_has _ u true n (moved_has f g _ h (received_clear (gate_of f g) c (clear_at f g h)))
    recv_has f u g c true true n h = progress_has f u true n h
    recv_has f u g c true false n h = move_has _ u (AtChannel g c) _ n (put_has f g _ h (awaited_clear (gate_of f g) c u n (clear_at f g h)))

    grow_has : (f : Frame B) (u c bytes : ℕ) (granted gives : Bool) → u ≢ t → Has w t b f → Has w t b (made_grow f u c bytes granted gives).frame
    grow_has f u c bytes true gives n h = progress_has _ u true n (pool_has f _ h)
    grow_has f u c bytes false true n h = progress_has f u true n h
    grow_has f u c bytes false false n h = failed_has f _ h

    made_has : (p : Shape) (f : Frame B) (u : ℕ) (need : Need B) → u ≢ t → Has w t b f → Has w t b (made p f u need).frame
    made_has p f u Scan n h = progress_has f u true n h
    made_has p f u (Recv g c) n h = recv_has f u g c _ _ n h
    made_has p f u (Send c x) n h = send_to_has f u c x (task_at p u).sends n h
    made_has p f u (Grow c bytes) n h = grow_has f u c bytes _ _ n h
    made_has p f u (Free c bytes) n h = progress_has _ u true n (pool_has f _ h)
    made_has p f u Writes n h = progress_has f u true n h
    made_has p f u Finish n h = finished_has p f u n h
    made_has p f u (Fail cause) n h = failed_has f cause h

    -- ------------------------------------------------------------ steps
    owner_has : (p : Shape) (f : Frame B) (u : ℕ) (k : EntryKind) (need : Need B) → u ≢ t → Has w t b f → IfSome (owner_step p f u k need) (Has w t b)
    owner_has p f u k need n h = within_if (Has w t b) (may_fail k) _ _ (λ _. failed_has f _ h)
        (λ _. within_if (Has w t b) (is_yielded k && get_or f.progress u false) _ _ (λ _. move_has f u Woken _ n h)
        (λ _. within_if (Has w t b) (same_kind (made p f u need).kind k) _ _ (λ _. made_has p f u need n h) (λ _. tt)))

    claim_has : (f : Frame B) (u v : ℕ) (k : EntryKind) → u ≢ t → Has w t b f → IfSome (claim_step f u v k) (Has w t b)
    claim_has f u v Claimed n h = within_if (Has w t b) (may_claim f u v) _ _ (λ _. progress_has _ u false n (move_has f u (OwnedBy v) _ n h)) (λ _. tt)
    claim_has f u v (Failed NoMemory) n h = within_if (Has w t b) (may_claim f u v) _ _ (λ _. failed_has f NoMemory h) (λ _. tt)
    claim_has f u v _ n h = tt

    pub other_has : (p : Shape) (f : Frame B) (e : Entry) (need : Need B) → e.task ≢ t → Has w t b f → IfSome (frame_step p f e need) (Has w t b)
    other_has p f e need n h = within_if (Has w t b) (is_over f) _ _ (λ _. tt)
        (λ _. within_if (Has w t b) (is_owned e.worker (place_of f e.task)) _ _ (λ _. owner_has p f e.task e.kind need n h) (λ _. claim_has f e.task e.worker e.kind n h))

    -- no other worker makes an entry of it
    claim_owned : (f : Frame B) (v : ℕ) (k : EntryKind) → place_of f t ≡ OwnedBy w → claim_step f t v k ≡ None
    claim_owned f v Claimed at = rw at refl
    claim_owned f v (Failed NoMemory) at = rw at refl
    claim_owned f v _ at = refl

    pub owned_none : (p : Shape) (f : Frame B) (e : Entry) (need : Need B) → e.worker ≢ w → place_of f t ≡ OwnedBy w → e.task ≡ t → frame_step p f e need ≡ None
    owned_none p f e need n at same = go (is_over f)
      where
        not_owner : is_owned e.worker (place_of f e.task) ≡ false
        not_owner = ap (λ k. is_owned e.worker (place_of f k)) same ∙ (ap (is_owned e.worker) at ∙ ne_eqb w e.worker (λ d. n (sym d)))

        go : (x : Bool) → cond x None (cond (is_owned e.worker (place_of f e.task)) (owner_step p f e.task e.kind need) (claim_step f e.task e.worker e.kind)) ≡ None
        go true = refl
        go false = rw not_owner (ap (λ k. claim_step f k e.worker e.kind) same ∙ claim_owned f e.worker e.kind at)

    -- a step of another worker leaves it to its owner, and is another task's
    abbrev pub HasApart : Entry → Frame B → Type 0
    HasApart e f = Has w t b f × (e.task ≢ t)

    pub step_has : (p : Shape) (f : Frame B) (e : Entry) (need : Need B) → e.worker ≢ w → Has w t b f → IfSome (frame_step p f e need) (HasApart e)
    step_has p f e need n h = elim (same_or_not e.task t) [
      | inl same ↦ subst (λ o. IfSome o (HasApart e)) (sym (owned_none p f e need n h.place same)) tt
      | inr other ↦ also (frame_step p f e need) other (other_has p f e need other h)
    ]
      where
        also : (o : Option (Frame B)) → e.task ≢ t → IfSome o (Has w t b) → IfSome o (HasApart e)
        also None d k = tt
        also (Some new) d k = (k, d)

-- no entry is this worker's
pub first_other : (w : ℕ) (e : Entry) (es : List Entry) → entries_by w (e ∷ es) ≡ [] → (e.worker ≢ w) × (entries_by w es ≡ [])
first_other w e es n = elim (same_or_not e.worker w) [
  | inl same ↦ (let z : e ∷ entries_by w es ≡ [] = sym (ap (λ b. cond b (e ∷ entries_by w es) (entries_by w es)) (eq-eqb e.worker w same)) ∙ n in cc)
  | inr other ↦ (other, sym (ap (λ b. cond b (e ∷ entries_by w es) (entries_by w es)) (ne_eqb e.worker w other)) ∙ n)
]

-- ------------------------------------------------------------ many steps
module _ {B : Type 0} (p : Shape) (w t : ℕ) (b : Bool) where
  pub replay_has : (o : Option (Frame B)) (steps : List (Entry × Need B)) → entries_by w (map (λ (x : Entry × Need B). x.0) steps) ≡ [] → IfSome o (Has w t b) → IfSome (frame_replay p o steps) (Has w t b)
  replay_has o [] n h = h
  replay_has o (s ∷ steps) n h =
      let k : (s.0.worker ≢ w) × (entries_by w (map (λ (x : Entry × Need B). x.0) steps) ≡ []) = first_other w s.0 (map (λ (x : Entry × Need B). x.0) steps) n in
      replay_has (next_frame p o s) steps k.1 (next o k.0 h)
    where
      less : (o : Option (Frame B)) → IfSome o (HasApart t w b s.0) → IfSome o (Has w t b)
      less None k = tt
      less (Some f) k = k.0

      next : (o : Option (Frame B)) → s.0.worker ≢ w → IfSome o (Has w t b) → IfSome (next_frame p o s) (Has w t b)
      next None d k = tt
      next (Some f) d k = less (frame_step p f s.0 s.1) (step_has t w b p f s.0 s.1 d k)

  -- ------------------------------------------------------------ runs with histories
  pub record RunHas (h : Past B) (r : Run B) : Type 0 where
    pub frame : Has w t b r.frame
    pub past : past_of r.pasts t ≡ h

  pub pasts_other : (pasts : List (Past B)) (u : ℕ) (need : Need B) (o : Option (Reply B)) → u ≢ t → past_of (pasts_after pasts u need o) t ≡ past_of pasts t
  pasts_other pasts u need None n = refl
  pasts_other pasts u need (Some reply) n = read_other pasts u t (past_of pasts u ++ (need, reply) ∷ []) [] n

  run_after_has : (past : Past B) (r : Run B) (e : Entry) (need : Need B) (o : Option (Frame B)) → RunHas past r → IfSome o (HasApart t w b e) → IfSome (run_after p r e need o) (RunHas past)
  run_after_has past r e need None h k = tt
  run_after_has past r e need (Some f) h k = record { frame = k.0; past = pasts_other r.pasts e.task need _ k.1 ∙ h.past }

  pub run_replay_has : (past : Past B) (o : Option (Run B)) (steps : List (Entry × Need B)) → entries_by w (map (λ (x : Entry × Need B). x.0) steps) ≡ [] → IfSome o (RunHas past) → IfSome (run_replay p o steps) (RunHas past)
  run_replay_has past o [] n h = h
  run_replay_has past o (s ∷ steps) n h =
      let k : (s.0.worker ≢ w) × (entries_by w (map (λ (x : Entry × Need B). x.0) steps) ≡ []) = first_other w s.0 (map (λ (x : Entry × Need B). x.0) steps) n in
      run_replay_has past (next_run p o s) steps k.1 (next o k.0 h)
    where
      next : (o : Option (Run B)) → s.0.worker ≢ w → IfSome o (RunHas past) → IfSome (next_run p o s) (RunHas past)
      next None d k = tt
      next (Some r) d k = run_after_has past r s.0 s.1 (frame_step p r.frame s.0 s.1) k (step_has t w b p r.frame s.0 s.1 d k.frame)
