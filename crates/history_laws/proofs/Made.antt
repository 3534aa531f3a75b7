-- What an entry changes of the channels.
use Rattle.std.proofs.Common.{ℕ, zero, suc, ◌+◌, ◌<◌, ◌≡◌, ◌≢◌, ◌⊎◌, inl, inr, refl, sym, ap, ◌∙◌, subst, eqb, List, [], ◌∷◌, length, Bool, true, false, ◌&&◌, ◌||◌, not, Option, Some, None, arith}
use Rattle.std.proofs.lemmas.Bool.{eqb-true, eq-eqb}
use Rattle.std.proofs.lemmas.Bool.Decides.{eqb_tells}
use Rattle.run_journal.specs.declared.cause.Cause.{Cause}
use Rattle.gate_channels.specs.Gate.{Channel, channel_at, is_empty, is_open, some_live, sent, received, awaited, held}
use Rattle.task_shape.proofs.Numbers.{same_or_not}
use Rattle.fair_pool.specs.Share.{Pool, grants, can_spill, held_by, with_held}
use Rattle.task_shape.specs.Shape.{Shape, IsShape, task_at, is_group, has, count_below, receives_at, sends_at}
use Rattle.core_frame.specs.declared.place.Place.{Place}
use Rattle.core_frame.specs.declared.place.Place.TheVariants.{OwnedBy, AtGate, AtChannel}
use Rattle.core_frame.specs.Frame.{Frame, place_of, gate_of, channel_of, unfinished}
use Rattle.core_frame.specs.Step.{Need, Scan, Recv, Send, Grow, Free, Writes, Finish, Fail, put_gate, moved, with_pool, move_to, progress_is, goes_on, failed, claimed, yielded, made, made_send, made_send_to, made_recv, made_grow}
use Rattle.core_frame.specs.Good.{IsOwn}
use Rattle.core_frame.specs.Lawful.{IsLawful}
use Rattle.core_frame.proofs.Gates.{channel_inside}
use Rattle.core_frame.proofs.Entries.{group_inside}
use Rattle.history_laws.specs.Histories.{Reply, Go, Batch, Refused, Gone, first_batch, none_live, reply_of}
use Rattle.history_laws.specs.Contents.{took_one, end_one, part_one, gone_one}
use Rattle.history_laws.proofs.Channels.{IsStill, still_refl, AreStill, still_then, still_put, awaited_still, held_still, finished_still, moved_here, moved_else, sent_here, sent_else, received_here, received_else, none_live_at}
use Rattle.history_laws.proofs.Changes.{Change, quiet, got, came}

-- what an answer changes of all channels, and what a refused send tells
pub record Changes {B : Type 0} (p : Shape) (t : ℕ) (n : Need B) (x : Reply B) (f f2 : Frame B) : Type 0 where
  pub each : (g c : ℕ) → Change p t g c n x (channel_of f g c) (channel_of f2 g c)
  pub gone : (g c : ℕ) → is_group (task_at p t).sends g ≡ true → gone_one c n x ≡ true → (channel_of f2 g c).live ≡ false

-- an entry with an answer, or without one
pub data Outcome {B : Type 0} (p : Shape) (t : ℕ) (n : Need B) (f f2 : Frame B) : Option (Reply B) → Type 0 where
  silent : AreStill f f2 → Outcome p t n f f2 None
  told : {x : Reply B} → Changes p t n x f f2 → Outcome p t n f f2 (Some x)

still_goes : {B : Type 0} (f : Frame B) (t : ℕ) → AreStill f (goes_on f t)
unfolding progress_is
still_goes f t g c = still_refl (channel_of f g c)

pub still_failed : {B : Type 0} (f : Frame B) (e : Cause) → AreStill f (failed f e)
unfolding failed
still_failed f e g c = still_refl (channel_of f g c)

still_pool : {B : Type 0} (f : Frame B) (x : Pool) (t : ℕ) → AreStill f (goes_on (with_pool f x) t)
unfolding with_pool progress_is
still_pool f x t g c = still_refl (channel_of f g c)

still_placed : {B : Type 0} (f : Frame B) (t : ℕ) (q : Place) (ts : List ℕ) → AreStill f (move_to f t q ts)
unfolding move_to
still_placed f t q ts g c = still_refl (channel_of f g c)

pub still_claimed : {B : Type 0} (f : Frame B) (t w : ℕ) → AreStill f (claimed f t w)
unfolding move_to progress_is
still_claimed f t w g c = still_refl (channel_of f g c)

pub still_yielded : {B : Type 0} (f : Frame B) (t : ℕ) → AreStill f (yielded f t)
unfolding move_to
still_yielded f t g c = still_refl (channel_of f g c)

-- an answer that tells nothing of any channel
plain : {B : Type 0} (p : Shape) (t : ℕ) (n : Need B) (x : Reply B) (f f2 : Frame B) → AreStill f f2 → ((g c : ℕ) → took_one g c n x ≡ []) → ((c : ℕ) → part_one c n x ≡ []) → ((g c : ℕ) → end_one g c n x ≡ false) → ((c : ℕ) → gone_one c n x ≡ false) → Changes p t n x f f2
plain p t n x f f2 s a b d e = record {
  each = λ g c. quiet (s g c) (a g c) (λ _. b c) (λ z. (let y : true ≡ false = sym z ∙ d g c in cc));
  gone = λ g c o z. (let y : true ≡ false = sym z ∙ e c in cc);
}

abbrev after_recv : {B : Type 0} → Frame B → ℕ → ℕ → ℕ → Frame B
after_recv f t g c = goes_on (moved f g (received (gate_of f g) c)) t

abbrev after_sent : {B : Type 0} → Frame B → ℕ → ℕ → ℕ → B → Frame B
after_sent f t g c b = goes_on (moved f g (sent (gate_of f g) c b)) t

both_true : (a b : Bool) → a && b ≡ true → (a ≡ true) × (b ≡ true)
both_true true b e = (refl, e)
both_true false b e = cc

module _ {B : Type 0} (p : Shape) (sh : IsShape p) (f : Frame B) (t w : ℕ) (k : IsLawful p f) (at : place_of f t ≡ OwnedBy w) where
  live_of : (g c : ℕ) → receives_at p t g c ≡ true → (channel_of f g c).live ≡ true
  live_of g c r = k.counted.live t g c r ∙ ap unfinished at

  -- ---------------------------------------------------------- Recv
  recv_outcome : (g0 c0 : ℕ) → receives_at p t g0 c0 ≡ true → (bs : List B) (un : Bool) → (channel_of f g0 c0).batches ≡ bs → eqb (channel_of f g0 c0).unended 0 ≡ un
      → Outcome p t (Recv g0 c0) f (made_recv f t g0 c0 (is_empty bs) un).frame (reply_of p f t (made_recv f t g0 c0 (is_empty bs) un).kind (Recv g0 c0))
  unfolding progress_is
  recv_outcome g0 c0 r (b ∷ bs) un e u = subst (λ (l : List B). Outcome p t (Recv g0 c0) f (goes_on (moved f g0 (received (gate_of f g0) c0)) t) (first_batch l)) (sym e) (told (record {
    each = λ g c. each g c (eqb_tells g0 g) (eqb_tells c0 c);
    gone = λ g c o z. cc;
  }))
    where
      c_in : c0 < length (gate_of f g0).channels
      c_in = channel_inside (λ (ch : Channel B). ch.live) (gate_of f g0) c0 (λ z. (let y : true ≡ false = sym (live_of g0 c0 r) ∙ z in cc))

      g_in : g0 < length f.gates
      g_in = group_inside p f g0 c0 k.frame c_in

      here : channel_of (after_recv f t g0 c0) g0 c0 ≡ channel_at (received (gate_of f g0) c0).gate c0
      here = moved_here f g0 c0 (received (gate_of f g0) c0) g_in

      there : (c : ℕ) → c0 ≢ c → channel_of (after_recv f t g0 c0) g0 c ≡ channel_of f g0 c
      there c m = moved_here f g0 c (received (gate_of f g0) c0) g_in ∙ received_else (gate_of f g0) c0 c m

      elsewhere : (g c : ℕ) → g0 ≢ g → channel_of (after_recv f t g0 c0) g c ≡ channel_of f g c
      elsewhere g c m = moved_else f g0 g c (received (gate_of f g0) c0) m

      as_before : (g c : ℕ) → channel_of (after_recv f t g0 c0) g c ≡ channel_of f g c → eqb g0 g && eqb c0 c ≡ false → Change p t g c (Recv g0 c0) (Batch b) (channel_of f g c) (channel_of (after_recv f t g0 c0) g c)
      as_before g c s m = quiet (subst (IsStill (channel_of f g c)) (sym s) (still_refl (channel_of f g c))) (rw m refl) (λ _. refl) (λ z. cc)

      each : (g c : ℕ) → ((eqb g0 g ≡ true) × (g0 ≡ g)) ⊎ ((eqb g0 g ≡ false) × (g0 ≢ g)) → ((eqb c0 c ≡ true) × (c0 ≡ c)) ⊎ ((eqb c0 c ≡ false) × (c0 ≢ c)) → Change p t g c (Recv g0 c0) (Batch b) (channel_of f g c) (channel_of (after_recv f t g0 c0) g c)
      each g c (inr m) o = as_before g c (elsewhere g c m.1) (rw m.0 refl)
      each g c (inl s) (inr m) = as_before g c (subst (λ j. channel_of (after_recv f t g0 c0) j c ≡ channel_of f j c) s.1 (there c m.1)) (rw (s.0, m.0) refl)
      each g c (inl s) (inl q) = subst (λ j. Change p t j c (Recv g0 c0) (Batch b) (channel_of f j c) (channel_of (after_recv f t g0 c0) j c)) s.1 (subst (λ j. Change p t g0 j (Recv g0 c0) (Batch b) (channel_of f g0 j) (channel_of (after_recv f t g0 c0) g0 j)) q.1
          (got b (rw (eq-eqb g0 g0 refl, eq-eqb c0 c0 refl) refl) refl refl r (live_of g0 c0 r)
          (e ∙ ap (λ l. b ∷ l) (sym (ap (λ (x : Channel B). x.batches) here ∙ (received_here (gate_of f g0) c0 b bs c_in e).0)))
          (ap (λ (x : Channel B). x.unended) here ∙ (received_here (gate_of f g0) c0 b bs c_in e).1)))
  recv_outcome g0 c0 r [] true e u = told (record {
    each = λ g c. quiet (still_goes f t g c) refl (λ _. refl) (λ z. ended g c z);
    gone = λ g c o z. cc;
  })
    where
      ended : (g c : ℕ) → eqb g0 g && eqb c0 c ≡ true → ((channel_of f g c).live ≡ true) × ((channel_of f g c).batches ≡ []) × ((channel_of f g c).unended ≡ 0)
      ended g c z =
          let y = both_true (eqb g0 g) (eqb c0 c) z in
          subst (λ j. ((channel_of f j c).live ≡ true) × ((channel_of f j c).batches ≡ []) × ((channel_of f j c).unended ≡ 0)) (eqb-true g0 g y.0)
          (subst (λ j. ((channel_of f g0 j).live ≡ true) × ((channel_of f g0 j).batches ≡ []) × ((channel_of f g0 j).unended ≡ 0)) (eqb-true c0 c y.1)
          (live_of g0 c0 r, e, eqb-true (channel_of f g0 c0).unended 0 u))
  recv_outcome g0 c0 r [] false e u = silent (still_then f (put_gate f g0 (awaited (gate_of f g0) c0 t)) (move_to (put_gate f g0 (awaited (gate_of f g0) c0 t)) t (AtChannel g0 c0) f.queue)
      (still_put f g0 (awaited (gate_of f g0) c0 t) (λ d. awaited_still (gate_of f g0) c0 t d))
      (still_placed (put_gate f g0 (awaited (gate_of f g0) c0 t)) t (AtChannel g0 c0) f.queue))

  -- ---------------------------------------------------------- Send
  gone_is : (c0 : ℕ) (b : B) (g0 : ℕ) (g c : ℕ) → (channel_of f g0 c0).live ≡ false → g0 ≡ g → gone_one c (Send c0 b) (Gone (none_live f (Some g0))) ≡ true → (channel_of f g c).live ≡ false
  gone_is c0 b g0 g c dead s z = go (some_live (gate_of f g0).channels) refl (eqb_tells c0 c)
    where
      go : (a : Bool) → some_live (gate_of f g0).channels ≡ a → ((eqb c0 c ≡ true) × (c0 ≡ c)) ⊎ ((eqb c0 c ≡ false) × (c0 ≢ c)) → (channel_of f g c).live ≡ false
      go a e (inl q) = subst (λ j. (channel_of f j c).live ≡ false) s (subst (λ j. (channel_of f g0 j).live ≡ false) q.1 dead)
      go false e (inr m) = subst (λ j. (channel_of f j c).live ≡ false) s (none_live_at (gate_of f g0).channels c e)
      go true e (inr m) = (let y : eqb c0 c || not (some_live (gate_of f g0).channels) ≡ true = z in let v : eqb c0 c || not (some_live (gate_of f g0).channels) ≡ false = rw (m.0, e) refl in let u : true ≡ false = sym y ∙ v in cc)

  group_is : (o : Option ℕ) (g0 g : ℕ) → o ≡ Some g0 → is_group o g ≡ true → g0 ≡ g
  group_is None g0 g e z = cc
  group_is (Some h) g0 g e z = (let y : h ≡ g0 = cc in sym y ∙ eqb-true h g z)

  send_outcome : (c0 : ℕ) (b : B) (g0 : ℕ) → (task_at p t).sends ≡ Some g0 → has (task_at p t).targets c0 ≡ true → t < length p.tasks → (live o : Bool) → (channel_of f g0 c0).live ≡ live
      → Outcome p t (Send c0 b) f (made_send f t g0 c0 b live o).frame (reply_of p f t (made_send f t g0 c0 b live o).kind (Send c0 b))
  unfolding progress_is
  send_outcome c0 b g0 s h lt false o e = subst (λ q. Outcome p t (Send c0 b) f (goes_on f t) (Some (Gone (none_live f q)))) (sym s) (told (record {
    each = λ g c. quiet (still_goes f t g c) refl (λ _. refl) (λ z. cc);
    gone = λ g c q z. gone_now g c q z;
  }))
    where
      gone_now : (g c : ℕ) → is_group (task_at p t).sends g ≡ true → gone_one c (Send c0 b) (Gone (none_live f (Some g0))) ≡ true → (channel_of (goes_on f t) g c).live ≡ false
      gone_now g c q z = gone_is c0 b g0 g c e (group_is (task_at p t).sends g0 g s q) z
  send_outcome c0 b g0 s h lt true false e = silent (still_then f (put_gate f g0 (held (gate_of f g0) t)) (move_to (put_gate f g0 (held (gate_of f g0) t)) t (AtGate g0) f.queue)
      (still_put f g0 (held (gate_of f g0) t) (λ d. held_still (gate_of f g0) t d))
      (still_placed (put_gate f g0 (held (gate_of f g0) t)) t (AtGate g0) f.queue))
  send_outcome c0 b g0 s h lt true true e = told (record {
    each = λ g c. each g c (eqb_tells g0 g) (eqb_tells c0 c);
    gone = λ g c o z. cc;
  })
    where
      c_in : c0 < length (gate_of f g0).channels
      c_in = channel_inside (λ (ch : Channel B). ch.live) (gate_of f g0) c0 (λ z. (let y : true ≡ false = sym e ∙ z in cc))

      g_in : g0 < length f.gates
      g_in = group_inside p f g0 c0 k.frame c_in

      here : channel_of (after_sent f t g0 c0 b) g0 c0 ≡ channel_at (sent (gate_of f g0) c0 b).gate c0
      here = moved_here f g0 c0 (sent (gate_of f g0) c0 b) g_in

      there : (c : ℕ) → c0 ≢ c → channel_of (after_sent f t g0 c0 b) g0 c ≡ channel_of f g0 c
      there c m = moved_here f g0 c (sent (gate_of f g0) c0 b) g_in ∙ sent_else (gate_of f g0) c0 c b m

      elsewhere : (g c : ℕ) → g0 ≢ g → channel_of (after_sent f t g0 c0 b) g c ≡ channel_of f g c
      elsewhere g c m = moved_else f g0 g c (sent (gate_of f g0) c0 b) m

      kept : (g c : ℕ) → channel_of (after_sent f t g0 c0 b) g c ≡ channel_of f g c → IsStill (channel_of f g c) (channel_of (after_sent f t g0 c0 b) g c)
      kept g c q = subst (IsStill (channel_of f g c)) (sym q) (still_refl (channel_of f g c))

      mine : is_group (task_at p t).sends g0 ≡ true
      mine = rw s (eq-eqb g0 g0 refl)

      some : (channel_of f g0 c0).unended ≢ 0
      some z = (let y : count_below (length p.tasks) (λ u. sends_at p u g0 c0 && unfinished (place_of f u)) ≡ 0 = sym (k.counted.unended g0 c0) ∙ z in
          let v : 0 < count_below (length p.tasks) (λ u. sends_at p u g0 c0 && unfinished (place_of f u)) = one_below (length p.tasks) t (λ u. sends_at p u g0 c0 && unfinished (place_of f u)) lt (rw (mine, h, at) refl) in
          omega (arith, y, v))
        where
          one_below : (m u : ℕ) (P : ℕ → Bool) → u < m → P u ≡ true → 0 < count_below m P
          one_below zero u P a b = absurd (omega arith)
          one_below (suc m) u P a b = elim (same_or_not u m) [
            | inl q ↦ (let y : P m ≡ true = subst (λ j. P j ≡ true) q b in rw y (omega arith))
            | inr q ↦ (let y : 0 < count_below m P = one_below m u P (omega (arith, a, q)) b in omega arith)
          ]

      each : (g c : ℕ) → ((eqb g0 g ≡ true) × (g0 ≡ g)) ⊎ ((eqb g0 g ≡ false) × (g0 ≢ g)) → ((eqb c0 c ≡ true) × (c0 ≡ c)) ⊎ ((eqb c0 c ≡ false) × (c0 ≢ c)) → Change p t g c (Send c0 b) Go (channel_of f g c) (channel_of (after_sent f t g0 c0 b) g c)
      each g c (inr m) o = quiet (kept g c (elsewhere g c m.1)) refl (λ q. absurd (m.1 (group_is (task_at p t).sends g0 g s q))) (λ z. cc)
      each g c (inl q) (inr m) = quiet (kept g c (subst (λ j. channel_of (after_sent f t g0 c0 b) j c ≡ channel_of f j c) q.1 (there c m.1))) refl (λ _. rw m.0 refl) (λ z. cc)
      each g c (inl q) (inl y) = subst (λ j. Change p t j c (Send c0 b) Go (channel_of f j c) (channel_of (after_sent f t g0 c0 b) j c)) q.1 (subst (λ j. Change p t g0 j (Send c0 b) Go (channel_of f g0 j) (channel_of (after_sent f t g0 c0 b) g0 j)) y.1
          (came b (rw (eq-eqb c0 c0 refl) refl) refl refl mine e (ap (λ (x : Channel B). x.batches) here ∙ sent_here (gate_of f g0) c0 b c_in) some))

  send_to_outcome : (c0 : ℕ) (b : B) (g0 : ℕ) (o : Option ℕ) → (task_at p t).sends ≡ Some g0 → (task_at p t).sends ≡ o → has (task_at p t).targets c0 ≡ true → t < length p.tasks
      → Outcome p t (Send c0 b) f (made_send_to f t o c0 b).frame (reply_of p f t (made_send_to f t o c0 b).kind (Send c0 b))
  send_to_outcome c0 b g0 None s e h lt = (let y : Some g0 ≡ None = sym s ∙ e in cc)
  send_to_outcome c0 b g0 (Some g1) s e h lt = send_outcome c0 b g1 e h lt (channel_of f g1 c0).live (is_open (gate_of f g1).channels) refl

  grow_outcome : (c b : ℕ) (g s : Bool) → Outcome p t (Grow c b) f (made_grow f t c b g s).frame (reply_of p f t (made_grow f t c b g s).kind (Grow c b))
  grow_outcome c b true s = told (plain p t (Grow c b) Go f _ (still_pool f (with_held f.pool c (held_by f.pool c + b)) t) (λ g d. refl) (λ d. refl) (λ g d. refl) (λ d. refl))
  grow_outcome c b false true = told (plain p t (Grow c b) Refused f _ (still_goes f t) (λ g d. refl) (λ d. refl) (λ g d. refl) (λ d. refl))
  grow_outcome c b false false = silent (still_failed f _)

  pub made_outcome : (n : Need B) → IsOwn p t n → t < length p.tasks → Outcome p t n f (made p f t n).frame (reply_of p f t (made p f t n).kind n)
  made_outcome Scan o lt = told (plain p t Scan Go f _ (still_goes f t) (λ g d. refl) (λ d. refl) (λ g d. refl) (λ d. refl))
  made_outcome (Recv g c) o lt = recv_outcome g c o (channel_of f g c).batches (eqb (channel_of f g c).unended 0) refl refl
  made_outcome (Send c b) o lt = send_to_outcome c b o.0 (task_at p t).sends o.1 refl o.2 lt
  made_outcome (Grow c b) o lt = grow_outcome c b (grants f.pool c b) (can_spill f.pool c && not (eqb (held_by f.pool c) 0))
  made_outcome (Free c b) o lt = told (plain p t (Free c b) Go f _ (still_pool f (with_held f.pool c 0) t) (λ g d. refl) (λ d. refl) (λ g d. refl) (λ d. refl))
  made_outcome Writes o lt = told (plain p t Writes Go f _ (still_goes f t) (λ g d. refl) (λ d. refl) (λ g d. refl) (λ d. refl))
  made_outcome Finish o lt = silent (finished_still p f t)
  made_outcome (Fail e) o lt = silent (still_failed f e)
