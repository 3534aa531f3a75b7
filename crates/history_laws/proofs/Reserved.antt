-- Each consumer holds what its task's history tells, whatever the needs are.
use Rattle.std.proofs.Common.{ℕ, zero, suc, ◌+◌, ◌<◌, ◌≡◌, ◌≢◌, ◌⊎◌, inl, inr, refl, sym, ap, ◌∙◌, subst, eqb, cond, List, [], ◌∷◌, ◌++◌, length, get_or, set, Bool, true, false, ◌&&◌, ◌||◌, not, Option, Some, None, get_or-set_same}
use Rattle.std.proofs.lemmas.Bool.{eq-eqb}
use Rattle.std.proofs.lemmas.Bool.Decides.{eqb_tells}
use Rattle.std.proofs.Math.ListN.{length-set}
use Rattle.run_journal.specs.declared.cause.Cause.{Cause}
use Rattle.gate_channels.specs.Gate.{Gate, Moved, Channel, is_empty, is_open, sent, received, ended, dropped, held, awaited}
use Rattle.task_shape.proofs.Numbers.{same_or_not}
use Rattle.fair_pool.specs.Share.{Pool, held_by, with_held, grants, can_spill}
use Rattle.task_shape.specs.Shape.{Shape, IsShape, HasOwners, task_at, has, receives_at}
use Rattle.core_frame.specs.declared.place.Place.{Place}
use Rattle.core_frame.specs.declared.place.Place.TheVariants.{Woken, OwnedBy, AtGate, AtChannel, Done}
use Rattle.core_frame.specs.Frame.{Frame, place_of, gate_of, channel_of, unfinished}
use Rattle.core_frame.specs.Step.{Need, Scan, Recv, Send, Grow, Free, Writes, Finish, Fail, wake, put_gate, moved, with_pool, move_to, progress_is, goes_on, failed, claimed, yielded, drops, ends_in, ends, released, finished, made, made_send, made_send_to, made_recv, made_grow}
use Rattle.core_frame.specs.Good.{IsOwn}
use Rattle.core_frame.specs.Lawful.{IsLawful}
use Rattle.core_frame.proofs.Lists.{read_other}
use Rattle.core_frame.proofs.Moves.{not_done_inside}
use Rattle.core_frame.proofs.Gates.{channel_inside, sent_effect, received_effect}
use Rattle.core_frame.proofs.Steps.{moved_woke, woke_unfinished}
use Rattle.core_frame.proofs.Entries.{group_inside}
use Rattle.core_frame.proofs.Finishing.{Drops, Ends, drops_after, ends_after}
use Rattle.history_laws.specs.Histories.{Reply, Go, Past, past_of, pasts_after, reply_of}
use Rattle.history_laws.specs.Reserved.{kept_one, kept_from, kept, owed, IsHeld}
use Rattle.history_laws.proofs.Lists.{longer}
use Rattle.history_laws.proofs.Ways.{Way, fails, yields, claims, makes}

pub kept_more : {B : Type 0} (c m : ℕ) (h : Past B) (n : Need B) (x : Reply B) → kept_from c m (h ++ (n, x) ∷ []) ≡ kept_one c n x (kept_from c m h)
kept_more c m [] n x = refl
kept_more c m (s ∷ h) n x = kept_more c (kept_one c s.0 s.1 m) h n x

abbrev pub kept_after : {B : Type 0} → ℕ → Need B → Option (Reply B) → ℕ → ℕ
kept_after c n None m = m
kept_after c n (Some x) m = kept_one c n x m

pub record HeldStep {B : Type 0} (p : Shape) (f f2 : Frame B) (t : ℕ) (n : Need B) (o : Option (Reply B)) : Type 0 where
  pub others : (u : ℕ) → t ≢ u → unfinished (place_of f2 u) ≡ unfinished (place_of f u)
  pub long : length f2.pool.held ≡ length f.pool.held
  pub elsewhere : (c : ℕ) → has (task_at p t).consumers c ≡ false → held_by f2.pool c ≡ held_by f.pool c
  pub mine : (c : ℕ) → has (task_at p t).consumers c ≡ true → held_by f2.pool c ≡ owed (unfinished (place_of f2 t)) (kept_after c n o (held_by f.pool c))

no_other : (b : Bool) → (b ≡ true → ⊥) → b ≡ false
no_other true h = absurd (h refl)
no_other false h = refl

-- the law's step, from what a step does to the pool
pub held_after : {B : Type 0} (p : Shape) (own : HasOwners p) (f f2 : Frame B) (pasts : List (Past B)) (t : ℕ) (n : Need B) (o : Option (Reply B)) → t < length pasts → unfinished (place_of f t) ≡ true → HeldStep p f f2 t n o → IsHeld p f pasts → IsHeld p f2 (pasts_after pasts t n o)
held_after {B} p own f f2 pasts t n o lt un s k = record { wide = s.long ∙ k.wide; holds = λ u c h. holds u c h (same_or_not t u) }
  where
    here : (o : Option (Reply B)) (c : ℕ) → kept c (past_of (pasts_after pasts t n o) t) ≡ kept_after c n o (kept c (past_of pasts t))
    here None c = refl
    here (Some x) c = ap (kept c) (longer pasts t n x lt).here ∙ kept_more c 0 (past_of pasts t) n x

    else : (o : Option (Reply B)) (u : ℕ) → t ≢ u → past_of (pasts_after pasts t n o) u ≡ past_of pasts u
    else None u m = refl
    else (Some x) u m = (longer pasts t n x lt).other u m

    holds : (u c : ℕ) → has (task_at p u).consumers c ≡ true → (t ≡ u) ⊎ (t ≢ u) → held_by f2.pool c ≡ owed (unfinished (place_of f2 u)) (kept c (past_of (pasts_after pasts t n o) u))
    holds u c h (inl e) = subst (λ j. held_by f2.pool c ≡ owed (unfinished (place_of f2 j)) (kept c (past_of (pasts_after pasts t n o) j))) e
        (s.mine c mine ∙ ap (owed (unfinished (place_of f2 t))) (ap (kept_after c n o) (k.holds t c mine ∙ ap (λ b. owed b (kept c (past_of pasts t))) un) ∙ sym (here o c)))
      where
        mine : has (task_at p t).consumers c ≡ true
        mine = subst (λ j. has (task_at p j).consumers c ≡ true) (sym e) h
    holds u c h (inr m) = s.elsewhere c (no_other (has (task_at p t).consumers c) (λ z. m (own.one_owner t u c z h))) ∙ (k.holds u c h ∙ (ap (λ b. owed b (kept c (past_of pasts u))) (sym (s.others u m)) ∙ ap (λ q. owed (unfinished (place_of f2 u)) (kept c q)) (sym (else o u m))))

-- who is finished, and who owns what, is as before
record Stays {B : Type 0} (p : Shape) (f f2 : Frame B) : Type 0 where
  places : (u : ℕ) → unfinished (place_of f2 u) ≡ unfinished (place_of f u)
  owner : (u w : ℕ) → place_of f u ≡ OwnedBy w → place_of f2 u ≡ OwnedBy w

-- the calls of Finished, before the task's own place changes
left_stays : {B : Type 0} (p : Shape) (f : Frame B) (t : ℕ) (o : Option ℕ) → IsShape p → IsLawful p f → (task_at p t).sends ≡ o → Stays p f (ends o (task_at p t).targets (drops (task_at p t).receives f))
left_stays {B} p f t None sh k s = record { places = a.after.places; owner = a.after.owner }
  where
    a : Drops p f (drops (task_at p t).receives f) (task_at p t).receives
    a = drops_after p (task_at p t).receives f k.frame (sh.inside t)
left_stays {B} p f t (Some g) sh k s = record { places = λ u. b.after.places u ∙ a.after.places u; owner = λ u w e. b.after.owner u w (a.after.owner u w e) }
  where
    a : Drops p f (drops (task_at p t).receives f) (task_at p t).receives
    a = drops_after p (task_at p t).receives f k.frame (sh.inside t)

    b : Ends p (drops (task_at p t).receives f) (ends_in g (task_at p t).targets (drops (task_at p t).receives f)) g (task_at p t).targets
    b = ends_after p g (task_at p t).targets (drops (task_at p t).receives f) a.after.frame (λ c n. sh.targets_inside t g c (rw s (rw (eq-eqb g g refl) n)))

-- ------------------------------------------------------------ what each step does to the pool
module _ {B : Type 0} (p : Shape) (sh : IsShape p) (own : HasOwners p) (f : Frame B) (t w : ℕ) (k : IsLawful p f) (wide : length f.pool.held ≡ length p.spillable) (at : place_of f t ≡ OwnedBy w) where
  same_pool : (f2 : Frame B) (n : Need B) (o : Option (Reply B)) → f2.pool ≡ f.pool → unfinished (place_of f2 t) ≡ true → ((u : ℕ) → t ≢ u → unfinished (place_of f2 u) ≡ unfinished (place_of f u)) → ((c m : ℕ) → kept_after c n o m ≡ m) → HeldStep p f f2 t n o
  same_pool f2 n o e un others q = record {
    others = others;
    long = ap (λ (x : Pool). length x.held) e;
    elsewhere = λ c h. ap (λ x. held_by x c) e;
    mine = λ c h. ap (λ x. held_by x c) e ∙ (sym (q c (held_by f.pool c)) ∙ ap (λ b. owed b (kept_after c n o (held_by f.pool c))) (sym un));
  }

  goes : (n : Need B) (o : Option (Reply B)) → ((c m : ℕ) → kept_after c n o m ≡ m) → HeldStep p f (goes_on f t) t n o
  unfolding progress_is
  goes n o q = same_pool (goes_on f t) n o refl (ap unfinished at) (λ u m. refl) q

  fails_held : (e : Cause) (n : Need B) → HeldStep p f (failed f e) t n None
  unfolding failed
  fails_held e n = same_pool (failed f e) n None refl (ap unfinished at) (λ u m. refl) (λ c m. refl)

  parks : (g : ℕ) (x : Gate B) (q : Place) (n : Need B) → unfinished q ≡ true → HeldStep p f (move_to (put_gate f g x) t q f.queue) t n None
  unfolding move_to put_gate
  parks g x q n e = same_pool (move_to (put_gate f g x) t q f.queue) n None refl (ap unfinished (get_or-set_same f.places t q Done (not_done_inside f t (λ z. (let v : OwnedBy w ≡ Done = sym at ∙ z in cc)))) ∙ e) (λ u m. ap unfinished (read_other f.places t u q Done m)) (λ c m. refl)

  moves : (g : ℕ) (m : Moved B) (n : Need B) (o : Option (Reply B)) → ((u : ℕ) → unfinished (place_of (moved f g m) u) ≡ unfinished (place_of f u)) → ((c m : ℕ) → kept_after c n o m ≡ m) → HeldStep p f (goes_on (moved f g m) t) t n o
  unfolding progress_is wake put_gate
  moves g m n o s q = same_pool (goes_on (moved f g m) t) n o refl (s t ∙ ap unfinished at) (λ u _. s u) q

  -- needs that reserve nothing
  quiet_recv : (g0 c0 : ℕ) (o : Option (Reply B)) (c m : ℕ) → kept_after c (Recv g0 c0) o m ≡ m
  quiet_recv g0 c0 None c m = refl
  quiet_recv g0 c0 (Some x) c m = refl

  quiet_send : (c0 : ℕ) (b : B) (o : Option (Reply B)) (c m : ℕ) → kept_after c (Send c0 b) o m ≡ m
  quiet_send c0 b None c m = refl
  quiet_send c0 b (Some x) c m = refl

  recv_held : (g c : ℕ) (e un : Bool) → receives_at p t g c ≡ true → HeldStep p f (made_recv f t g c e un).frame t (Recv g c) (reply_of p f t (made_recv f t g c e un).kind (Recv g c))
  recv_held g c false un r = moves g (received (gate_of f g) c) (Recv g c) _ (λ u. woke_unfinished f (moved f g (received (gate_of f g) c)) (moved_woke f g (received (gate_of f g) c) k.frame.located (group_inside p f g c k.frame c_in) (received_effect (gate_of f g) c (k.frame.gates g)).how) u) (quiet_recv g c (reply_of p f t (made_recv f t g c false un).kind (Recv g c)))
    where
      live : (channel_of f g c).live ≡ true
      live = k.counted.live t g c r ∙ ap unfinished at

      c_in : c < length (gate_of f g).channels
      c_in = channel_inside (λ (ch : Channel B). ch.live) (gate_of f g) c (λ z. (let y : true ≡ false = sym live ∙ z in cc))
  recv_held g c true true r = goes (Recv g c) _ (quiet_recv g c (reply_of p f t (made_recv f t g c true true).kind (Recv g c)))
  recv_held g c true false r = parks g (awaited (gate_of f g) c t) (AtChannel g c) (Recv g c) refl

  send_held : (g c : ℕ) (b : B) (live o : Bool) → (channel_of f g c).live ≡ live → is_open (gate_of f g).channels ≡ o → HeldStep p f (made_send f t g c b live o).frame t (Send c b) (reply_of p f t (made_send f t g c b live o).kind (Send c b))
  send_held g c b false o el eo = goes (Send c b) _ (quiet_send c b (reply_of p f t (made_send f t g c b false o).kind (Send c b)))
  send_held g c b true false el eo = parks g (held (gate_of f g) t) (AtGate g) (Send c b) refl
  send_held g c b true true el eo = moves g (sent (gate_of f g) c b) (Send c b) _ (λ u. woke_unfinished f (moved f g (sent (gate_of f g) c b)) (moved_woke f g (sent (gate_of f g) c b) k.frame.located (group_inside p f g c k.frame c_in) (sent_effect (gate_of f g) c b (k.frame.gates g) el eo).how) u) (quiet_send c b (reply_of p f t (made_send f t g c b true true).kind (Send c b)))
    where
      c_in : c < length (gate_of f g).channels
      c_in = channel_inside (λ (ch : Channel B). ch.live) (gate_of f g) c (λ z. (let y : true ≡ false = sym el ∙ z in cc))

  send_to_held : (o : Option ℕ) (c : ℕ) (b : B) → HeldStep p f (made_send_to f t o c b).frame t (Send c b) (reply_of p f t (made_send_to f t o c b).kind (Send c b))
  send_to_held None c b = goes (Send c b) _ (quiet_send c b (reply_of p f t (made_send_to f t None c b).kind (Send c b)))
  send_to_held (Some g) c b = send_held g c b (channel_of f g c).live (is_open (gate_of f g).channels) refl refl

  -- the pool after a write of one of the task's consumers
  writes_held : (c0 m : ℕ) (n : Need B) (x : Reply B) → has (task_at p t).consumers c0 ≡ true → ((c q : ℕ) → kept_one c n x q ≡ cond (eqb c0 c) (cond (eqb c0 c) (kept_one c0 n x q) q) q) → kept_one c0 n x (held_by f.pool c0) ≡ m → HeldStep p f (goes_on (with_pool f (with_held f.pool c0 m)) t) t n (Some x)
  unfolding progress_is with_pool
  writes_held c0 m n x h q v = record {
    others = λ u d. refl;
    long = length-set f.pool.held c0 m;
    elsewhere = λ c d. read_other f.pool.held c0 c m 0 (λ z. (let y : true ≡ false = sym (subst (λ j. has (task_at p t).consumers j ≡ true) z h) ∙ d in cc));
    mine = λ c d. mine c (eqb_tells c0 c) ∙ ap (λ b. owed b (kept_one c n x (held_by f.pool c))) (sym (ap unfinished at));
  }
    where
      inside : c0 < length f.pool.held
      inside = subst (λ z. c0 < z) (sym wide) (own.within t c0 h)

      mine : (c : ℕ) → ((eqb c0 c ≡ true) × (c0 ≡ c)) ⊎ ((eqb c0 c ≡ false) × (c0 ≢ c)) → held_by (with_held f.pool c0 m) c ≡ kept_one c n x (held_by f.pool c)
      mine c (inl e) = subst (λ j. held_by (with_held f.pool c0 m) j ≡ kept_one j n x (held_by f.pool j)) e.1 (get_or-set_same f.pool.held c0 m 0 inside ∙ sym v)
      mine c (inr e) = read_other f.pool.held c0 c m 0 e.1 ∙ sym (q c (held_by f.pool c) ∙ ap (λ b. cond b (cond b (kept_one c0 n x (held_by f.pool c)) (held_by f.pool c)) (held_by f.pool c)) e.0)

  grow_held : (c b : ℕ) (g s : Bool) → has (task_at p t).consumers c ≡ true → HeldStep p f (made_grow f t c b g s).frame t (Grow c b) (reply_of p f t (made_grow f t c b g s).kind (Grow c b))
  grow_held c b true s h = writes_held c (held_by f.pool c + b) (Grow c b) Go h (λ d q. agree d q (eqb_tells c d)) (rw (eq-eqb c c refl) refl)
    where
      agree : (d q : ℕ) → ((eqb c d ≡ true) × (c ≡ d)) ⊎ ((eqb c d ≡ false) × (c ≢ d)) → cond (eqb c d) (q + b) q ≡ cond (eqb c d) (cond (eqb c d) (cond (eqb c c) (q + b) q) q) q
      agree d q (inl e) = rw (e.0, eq-eqb c c refl) refl
      agree d q (inr e) = rw e.0 refl
  grow_held c b false true h = goes (Grow c b) _ (λ d m. refl)
  grow_held c b false false h = fails_held _ (Grow c b)

  free_held : (c b : ℕ) → has (task_at p t).consumers c ≡ true → HeldStep p f (goes_on (with_pool f (with_held f.pool c 0)) t) t (Free c b) (Some Go)
  free_held c b h = writes_held c 0 (Free c b) Go h (λ d q. agree d q (eqb_tells c d)) (rw (eq-eqb c c refl) refl)
    where
      agree : (d q : ℕ) → ((eqb c d ≡ true) × (c ≡ d)) ⊎ ((eqb c d ≡ false) × (c ≢ d)) → cond (eqb c d) 0 q ≡ cond (eqb c d) (cond (eqb c d) (cond (eqb c c) 0 q) q) q
      agree d q (inl e) = rw (e.0, eq-eqb c c refl) refl
      agree d q (inr e) = rw e.0 refl

  -- ---------------------------------------------------------- Finish
  drops_pool : (xs : List (ℕ × ℕ)) (x : Frame B) → (drops xs x).pool ≡ x.pool
  unfolding wake put_gate
  drops_pool [] x = refl
  drops_pool (y ∷ xs) x = drops_pool xs (moved x y.0 (dropped (gate_of x y.0) y.1))

  ends_pool : (o : Option ℕ) (cs : List ℕ) (x : Frame B) → (ends o cs x).pool ≡ x.pool
  unfolding wake put_gate
  ends_pool None cs x = refl
  ends_pool (Some g) cs x = go cs x
    where
      go : (cs : List ℕ) (x : Frame B) → (ends_in g cs x).pool ≡ x.pool
      go [] x = refl
      go (c ∷ cs) x = go cs (moved x g (ended (gate_of x g) c))

  released_out : (cs : List ℕ) (q : Pool) (c : ℕ) → has cs c ≡ false → held_by (released cs q) c ≡ held_by q c
  released_out [] q c h = refl
  released_out (d ∷ cs) q c h = elim (eqb_tells d c) [
    | inl e ↦ (let z : (eqb d c || has cs c) ≡ true = rw e.0 refl in let y : true ≡ false = sym z ∙ h in cc)
    | inr e ↦ released_out cs (with_held q d 0) c (second (eqb d c) (has cs c) h) ∙ read_other q.held d c 0 0 e.1
  ]
    where
      second : (a b : Bool) → a || b ≡ false → b ≡ false
      second true b z = cc
      second false b z = z

  released_in : (cs : List ℕ) (q : Pool) (c : ℕ) → (has cs c ≡ true) ⊎ (held_by q c ≡ 0) → held_by (released cs q) c ≡ 0
  released_in [] q c (inl h) = cc
  released_in [] q c (inr h) = h
  released_in (d ∷ cs) q c h = released_in cs (with_held q d 0) c (elim (eqb_tells d c) [
    | inl e ↦ inr (zeroed q.held d c e.1)
    | inr e ↦ elim h [ inl y ↦ inl (second (eqb d c) (has cs c) e.0 y) | inr y ↦ inr (read_other q.held d c 0 0 e.1 ∙ y) ]
  ])
    where
      second : (a b : Bool) → a ≡ false → a || b ≡ true → b ≡ true
      second true b x z = cc
      second false b x z = z

      zeroed : (xs : List ℕ) (i j : ℕ) → i ≡ j → get_or (set xs i 0) j 0 ≡ 0
      zeroed xs i j e = subst (λ m. get_or (set xs i 0) m 0 ≡ 0) e (go xs i)
        where
          go : (xs : List ℕ) (i : ℕ) → get_or (set xs i 0) i 0 ≡ 0
          go [] i = refl
          go (x ∷ xs) zero = refl
          go (x ∷ xs) (suc i) = go xs i

  released_long : (cs : List ℕ) (q : Pool) → length (released cs q).held ≡ length q.held
  released_long [] q = refl
  released_long (d ∷ cs) q = released_long cs (with_held q d 0) ∙ length-set q.held d 0

  finish_held : HeldStep p f (finished p f t) t Finish None
  unfolding with_pool move_to
  finish_held = record {
    others = λ u m. ap unfinished (read_other f2.places t u Done Done m) ∙ left.places u;
    long = released_long (task_at p t).consumers f2.pool ∙ ap (λ (x : Pool). length x.held) pool_is;
    elsewhere = λ c h. released_out (task_at p t).consumers f2.pool c h ∙ ap (λ x. held_by x c) pool_is;
    mine = λ c h. released_in (task_at p t).consumers f2.pool c (inl h) ∙ sym (ap (λ q. owed (unfinished q) (held_by f.pool c)) there);
  }
    where
      f2 : Frame B
      f2 = ends (task_at p t).sends (task_at p t).targets (drops (task_at p t).receives f)

      left : Stays p f (ends (task_at p t).sends (task_at p t).targets (drops (task_at p t).receives f))
      left = left_stays p f t (task_at p t).sends sh k refl

      pool_is : (ends (task_at p t).sends (task_at p t).targets (drops (task_at p t).receives f)).pool ≡ f.pool
      pool_is = ends_pool (task_at p t).sends (task_at p t).targets (drops (task_at p t).receives f) ∙ drops_pool (task_at p t).receives f

      there : place_of (finished p f t) t ≡ Done
      there = get_or-set_same (ends (task_at p t).sends (task_at p t).targets (drops (task_at p t).receives f)).places t Done Done (not_done_inside (ends (task_at p t).sends (task_at p t).targets (drops (task_at p t).receives f)) t (λ z. (let y : OwnedBy w ≡ Done = sym (left.owner t w at) ∙ z in cc)))

  pub made_held : (n : Need B) → IsOwn p t n → HeldStep p f (made p f t n).frame t n (reply_of p f t (made p f t n).kind n)
  made_held Scan o = goes Scan _ (λ c m. refl)
  made_held (Recv g c) o = recv_held g c (is_empty (channel_of f g c).batches) (eqb (channel_of f g c).unended 0) o
  made_held (Send c b) o = send_to_held (task_at p t).sends c b
  made_held (Grow c b) o = grow_held c b (grants f.pool c b) (can_spill f.pool c && not (eqb (held_by f.pool c) 0)) o
  made_held (Free c b) o = free_held c b o
  made_held Writes o = goes Writes _ (λ c m. refl)
  made_held Finish o = finish_held
  made_held (Fail e) o = fails_held e (Fail e)

-- ------------------------------------------------------------ each way of a step
still_held : {B : Type 0} (p : Shape) (f f2 : Frame B) (t : ℕ) (n : Need B) → f2.pool ≡ f.pool → unfinished (place_of f2 t) ≡ true → ((u : ℕ) → t ≢ u → unfinished (place_of f2 u) ≡ unfinished (place_of f u)) → HeldStep p f f2 t n None
still_held p f f2 t n e un others = record {
  others = others;
  long = ap (λ (x : Pool). length x.held) e;
  elsewhere = λ c h. ap (λ x. held_by x c) e;
  mine = λ c h. ap (λ x. held_by x c) e ∙ ap (λ b. owed b (held_by f.pool c)) (sym un);
}

failed_held : {B : Type 0} (p : Shape) (f : Frame B) (t : ℕ) (e : Cause) (n : Need B) → unfinished (place_of f t) ≡ true → HeldStep p f (failed f e) t n None
unfolding failed
failed_held p f t e n un = still_held p f (failed f e) t n refl un (λ u m. refl)

claimed_held : {B : Type 0} (p : Shape) (f : Frame B) (t w : ℕ) (n : Need B) → place_of f t ≢ Done → HeldStep p f (claimed f t w) t n None
unfolding move_to progress_is
claimed_held p f t w n h = still_held p f (claimed f t w) t n refl (ap unfinished (get_or-set_same f.places t (OwnedBy w) Done (not_done_inside f t h))) (λ u m. ap unfinished (read_other f.places t u (OwnedBy w) Done m))

yielded_held : {B : Type 0} (p : Shape) (f : Frame B) (t : ℕ) (n : Need B) → place_of f t ≢ Done → HeldStep p f (yielded f t) t n None
unfolding move_to
yielded_held p f t n h = still_held p f (yielded f t) t n refl (ap unfinished (get_or-set_same f.places t Woken Done (not_done_inside f t h))) (λ u m. ap unfinished (read_other f.places t u Woken Done m))

pub way_held : {B : Type 0} (p : Shape) (sh : IsShape p) (own : HasOwners p) (f : Frame B) (t w : ℕ) (n : Need B) (f2 : Frame B) (o : Option (Reply B)) → IsLawful p f → length f.pool.held ≡ length p.spillable → IsOwn p t n → Way p f t w n f2 o → HeldStep p f f2 t n o
way_held p sh own f t w n f2 o k wide i (fails cause u) = failed_held p f t cause n u
way_held p sh own f t w n f2 o k wide i (yields at) = yielded_held p f t n (λ z. (let v : OwnedBy w ≡ Done = sym at ∙ z in cc))
way_held p sh own f t w n f2 o k wide i (claims at) = claimed_held p f t w n (λ z. (let v : Woken ≡ Done = sym at ∙ z in cc))
way_held p sh own f t w n f2 o k wide i (makes at) = made_held p sh own f t w k wide at n i
