-- Serving a Recv is a step of the frame.
use Rattle.std.proofs.Common.{ℕ, ◌<◌, ◌≡◌, inl, inr, refl, sym, ap, ◌∙◌, List, ◌∷◌, ◌++◌, length, get_or, set, map, eqb, Bool, true, false, Option, Some, None, arith}
use Rattle.std.proofs.lemmas.Bool.{eq-eqb}
use Rattle.std.proofs.lemmas.Bool.Decides.{eqb_tells}
use Rattle.std.proofs.lemmas.List.{map-set, set-get_or}
use Rattle.run_journal.specs.declared.cause.Cause.{Cause}
use Rattle.run_journal.specs.declared.entry.EntryKind.TheVariants.{Received, Empty, Ended}
use Rattle.gate_channels.specs.Gate.{Gate, Moved, no_gate, channel_at, is_empty, received, awaited}
use Rattle.task_shape.specs.Numbers.{count}
use Rattle.gate_channels.specs.Group.{Grouped, WaitApart, KeepsSize}
use Rattle.gate_channels.specs.declared.group.Receiving.TheVariants as takes
use Rattle.gate_channels.specs.Answers.{Receives}
use Rattle.fair_pool.specs.Share.{Pool}
use Rattle.task_shape.specs.Shape.{Shape, receives_at}
use Rattle.core_frame.specs.declared.place.Place.{Place}
use Rattle.core_frame.specs.declared.place.Place.TheVariants.{OwnedBy, AtChannel, Done}
use Rattle.core_frame.specs.Frame.{Frame, place_of, gate_of, channel_of}
use Rattle.core_frame.specs.Step.{Recv, frame_step, moved, goes_on, wake, put_gate, move_to, progress_is, wake_all}
use Rattle.run_frame.specs.Running.{IsRunning, AllAre, frame_of}
use Rattle.run_frame.proofs.Owners.{some_owned, owned_inside, owned_fresh}
use Rattle.run_frame.proofs.Kept.{running_going, running_put}
use Rattle.run_frame.proofs.Claims.{wake_all_append, wake_all_set}
use Rattle.run_frame.proofs.Serves.{frame_is, map_read, source_inside, room_is, apart, all_set}
use Rattle.std.proofs.Math.ListN.{length-set}
use Rattle.gate_channels.specs.Queue.{Ready}

received_step : {B : Type 0} (p : Shape) (f : Frame B) (w t g c : ℕ) → place_of f t ≡ OwnedBy w → f.failure ≡ None → is_empty (channel_of f g c).batches ≡ false
    → frame_step p f (record { worker = w; task = t; kind = Received }) (Recv g c) ≡ Some (goes_on (moved f g (received (gate_of f g) c)) t)
received_step p f w t g c at ok e = rw (some_owned f.places t w at, ok, at, eq-eqb w w refl, e) refl

empty_step : {B : Type 0} (p : Shape) (f : Frame B) (w t g c : ℕ) → place_of f t ≡ OwnedBy w → f.failure ≡ None → is_empty (channel_of f g c).batches ≡ true → eqb (channel_of f g c).unended 0 ≡ false
    → frame_step p f (record { worker = w; task = t; kind = Empty }) (Recv g c) ≡ Some (move_to (put_gate f g (awaited (gate_of f g) c t)) t (AtChannel g c) f.queue)
empty_step p f w t g c at ok e n = rw (some_owned f.places t w at, ok, at, eq-eqb w w refl, e, n) refl

ended_step : {B : Type 0} (p : Shape) (f : Frame B) (w t g c : ℕ) → place_of f t ≡ OwnedBy w → f.failure ≡ None → is_empty (channel_of f g c).batches ≡ true → eqb (channel_of f g c).unended 0 ≡ true
    → frame_step p f (record { worker = w; task = t; kind = Ended }) (Recv g c) ≡ Some (goes_on f t)
ended_step p f w t g c at ok e n = rw (some_owned f.places t w at, ok, at, eq-eqb w w refl, e, n) refl

not_zero : (n : ℕ) → 0 < n → eqb n 0 ≡ false
not_zero n h = elim (eqb_tells n 0) [ inl w ↦ absurd (omega (arith, w.1)) | inr w ↦ w.0 ]

module _ {B : Type 0} (p : Shape) (gs : List (Grouped B)) (x x2 : Grouped B) (g t w c : ℕ) (pool : Pool) (queue queue2 : List ℕ) (ps : List Place) (pr : List Bool) (fl : Option Cause)
    (ok : fl ≡ None) (inside : g < length gs) (is : x ≡ get_or gs g x) (at : get_or (wake_all queue ps) t Done ≡ OwnedBy w) where
  before : Frame B
  before = frame_of gs pool queue ps pr fl

  here : get_or (map (λ y. y.gate) gs) g no_gate ≡ x.gate
  here = map_read gs g x inside is

  pub takes_batch : (b : B) → Receives x.gate t c (takes.Batch b) x2.gate queue queue2
      → frame_step p (frame_of gs pool queue ps pr fl) (record { worker = w; task = t; kind = Received }) (Recv g c) ≡ Some (frame_of (set gs g x2) pool queue2 ps (set pr t true) fl)
  unfolding before wake put_gate progress_is
  takes_batch b k =
      let em : received x.gate c ≡ received (gate_of before g) c = ap (λ (y : Gate B). received y c) (sym here) in
      received_step p before w t g c at ok (ap (λ (y : Gate B). is_empty (channel_at y c).batches) here ∙ ap is_empty k.1)
      ∙ ap Some (frame_is pool fl _ (map (λ y. y.gate) (set gs g x2)) _ queue2 _ (wake_all queue2 ps) _ (set pr t true)
      (ap (λ (n : Moved B). set (map (λ (y : Grouped B). y.gate) gs) g n.gate) (sym em) ∙ (ap (set (map (λ (y : Grouped B). y.gate) gs) g) (sym k.2.gate) ∙ sym (map-set (λ (y : Grouped B). y.gate) gs g x2)))
      (ap (λ (n : Moved B). queue ++ n.woken) (sym em) ∙ sym k.2.woken)
      (ap (λ (n : Moved B). wake_all n.woken (wake_all queue ps)) (sym em) ∙ (sym (wake_all_append queue (received x.gate c).woken ps) ∙ ap (λ q. wake_all q ps) (sym k.2.woken)))
      refl)

  pub takes_empty : Receives x.gate t c takes.Empty x2.gate queue queue2 → count t queue ≡ 0
      → frame_step p (frame_of gs pool queue ps pr fl) (record { worker = w; task = t; kind = Empty }) (Recv g c) ≡ Some (frame_of (set gs g x2) pool queue2 (set ps t (AtChannel g c)) pr fl)
  unfolding before wake put_gate move_to
  takes_empty k out =
      let em : x2.gate ≡ awaited (gate_of before g) c t = k.2.gate ∙ ap (λ (y : Gate B). awaited y c t) (sym here) in
      empty_step p before w t g c at ok (ap (λ (y : Gate B). is_empty (channel_at y c).batches) here ∙ ap is_empty k.0) (ap (λ (y : Gate B). eqb (channel_at y c).unended 0) here ∙ not_zero _ k.1)
      ∙ ap Some (frame_is pool fl _ (map (λ y. y.gate) (set gs g x2)) _ queue2 _ (wake_all queue2 (set ps t (AtChannel g c))) _ pr
      (ap (set (map (λ (y : Grouped B). y.gate) gs) g) (sym em) ∙ sym (map-set (λ (y : Grouped B). y.gate) gs g x2))
      (sym k.2.woken)
      (sym (wake_all_set queue ps t (AtChannel g c) out) ∙ ap (λ q. wake_all q (set ps t (AtChannel g c))) (sym k.2.woken))
      refl)

  pub takes_end : Receives x.gate t c takes.Ended x2.gate queue queue2
      → frame_step p (frame_of gs pool queue ps pr fl) (record { worker = w; task = t; kind = Ended }) (Recv g c) ≡ Some (frame_of (set gs g x2) pool queue2 ps (set pr t true) fl)
  unfolding before progress_is
  takes_end k =
      ended_step p before w t g c at ok (ap (λ (y : Gate B). is_empty (channel_at y c).batches) here ∙ ap is_empty k.0) (ap (λ (y : Gate B). eqb (channel_at y c).unended 0) here ∙ ap (λ n. eqb n 0) k.1)
      ∙ ap Some (frame_is pool fl _ (map (λ y. y.gate) (set gs g x2)) _ queue2 _ (wake_all queue2 ps) _ (set pr t true)
      (sym (set-get_or (map (λ (y : Grouped B). y.gate) gs) g no_gate) ∙ (ap (set (map (λ (y : Grouped B). y.gate) gs) g) (sym (k.2.gate ∙ sym here)) ∙ sym (map-set (λ (y : Grouped B). y.gate) gs g x2)))
      (sym k.2.woken)
      (ap (λ q. wake_all q ps) (sym k.2.woken))
      refl)

module _ {B : Type 0} (p : Shape) (gs : List (Grouped B)) (x x2 : Grouped B) (g t w c : ℕ) (pool : Pool) (v v2 : Ready) (ps : List Place) (pr : List Bool) (fl : Option Cause) (left : ℕ)
    (k : IsRunning p gs pool v.tasks v.room ps pr fl left) (ok : fl ≡ None) (at : get_or (wake_all v.tasks ps) t Done ≡ OwnedBy w) (own : receives_at p t g c ≡ true) (is : x ≡ get_or gs g x) where
  fits : (g < length gs) × ((x : Grouped B) → x ≡ get_or gs g x → c < length x.gate.channels)
  fits = source_inside p gs pool v.tasks v.room ps pr fl left t g c k own

  pub recv_group : g < length gs
  recv_group = fits.0

  pub recv_channel : c < length x.gate.channels
  recv_channel = fits.1 x is

  pub recv_task : t < x.room
  recv_task = (let r : x.room ≡ length ps = room_is p gs x g pool v ps pr fl left k recv_group is in let i : t < length ps = owned_inside p gs pool v.tasks v.room ps pr fl left w t k ok at in omega arith)

  pub recv_apart : WaitApart x v
  recv_apart = apart p gs x g pool v ps pr fl left k recv_group is

  rooms_after : KeepsSize x x2 v v2 → AllAre (length ps) (map (λ y. y.room) (set gs g x2))
  rooms_after size = all_set (length ps) gs g x2 k.rooms (size.room ∙ room_is p gs x g pool v ps pr fl left k recv_group is)

  pub batch_frame : (b : B) → Receives x.gate t c (takes.Batch b) x2.gate v.tasks v2.tasks → frame_step p (frame_of gs pool v.tasks ps pr fl) (record { worker = w; task = t; kind = Received }) (Recv g c) ≡ Some (frame_of (set gs g x2) pool v2.tasks ps (set pr t true) fl)
  batch_frame b q = takes_batch p gs x x2 g t w c pool v.tasks v2.tasks ps pr fl ok recv_group is at b q

  -- it is the channel's first
  pub batch_first : (b : B) → Receives x.gate t c (takes.Batch b) x2.gate v.tasks v2.tasks → (rest : List B) × ((channel_of (frame_of gs pool v.tasks ps pr fl) g c).batches ≡ b ∷ rest)
  batch_first b q = (q.0, ap (λ (y : Gate B). (channel_at y c).batches) (map_read gs g x recv_group is) ∙ q.1)

  pub batch_running : (b : B) → KeepsSize x x2 v v2 → Receives x.gate t c (takes.Batch b) x2.gate v.tasks v2.tasks → IsRunning p (set gs g x2) pool v2.tasks v2.room ps (set pr t true) fl left
  batch_running b size q = running_going p gs (set gs g x2) pool pool v.tasks v2.tasks v.room v2.room ps pr (set pr t true) fl fl left (record { worker = w; task = t; kind = Received }) (Recv g c) k own (batch_frame b q) refl (length-set pr t true) size.queue_room (rooms_after size) refl

  pub empty_frame : Receives x.gate t c takes.Empty x2.gate v.tasks v2.tasks → frame_step p (frame_of gs pool v.tasks ps pr fl) (record { worker = w; task = t; kind = Empty }) (Recv g c) ≡ Some (frame_of (set gs g x2) pool v2.tasks (set ps t (AtChannel g c)) pr fl)
  empty_frame q = takes_empty p gs x x2 g t w c pool v.tasks v2.tasks ps pr fl ok recv_group is at q (owned_fresh p gs pool v.tasks v.room ps pr fl left w t k ok at)

  pub empty_running : KeepsSize x x2 v v2 → Receives x.gate t c takes.Empty x2.gate v.tasks v2.tasks → IsRunning p (set gs g x2) pool v2.tasks v2.room (set ps t (AtChannel g c)) pr fl left
  empty_running size q = running_put p gs (set gs g x2) pool pool v.tasks v2.tasks v.room v2.room ps pr pr fl fl left (record { worker = w; task = t; kind = Empty }) (Recv g c) k own (AtChannel g c) (empty_frame q) refl (λ u z. cc) refl size.queue_room (rooms_after size) refl

  pub end_frame : Receives x.gate t c takes.Ended x2.gate v.tasks v2.tasks → frame_step p (frame_of gs pool v.tasks ps pr fl) (record { worker = w; task = t; kind = Ended }) (Recv g c) ≡ Some (frame_of (set gs g x2) pool v2.tasks ps (set pr t true) fl)
  end_frame q = takes_end p gs x x2 g t w c pool v.tasks v2.tasks ps pr fl ok recv_group is at q

  pub end_running : KeepsSize x x2 v v2 → Receives x.gate t c takes.Ended x2.gate v.tasks v2.tasks → IsRunning p (set gs g x2) pool v2.tasks v2.room ps (set pr t true) fl left
  end_running size q = running_going p gs (set gs g x2) pool pool v.tasks v2.tasks v.room v2.room ps pr (set pr t true) fl fl left (record { worker = w; task = t; kind = Ended }) (Recv g c) k own (end_frame q) refl (length-set pr t true) size.queue_room (rooms_after size) refl
