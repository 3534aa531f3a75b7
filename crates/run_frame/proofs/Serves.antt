-- Serving a Send is a step of the frame.
use Rattle.std.proofs.Common.{ℕ, zero, suc, ◌<◌, ◌≡◌, inl, inr, refl, sym, ap, ◌∙◌, subst, List, [], ◌∷◌, ◌++◌, length, get_or, set, map, Bool, true, false, not, Option, Some, None, arith}
use Rattle.std.proofs.lemmas.Bool.{eq-eqb}
use Rattle.std.proofs.lemmas.List.{map-set, set-get_or, length-map}
use Rattle.gate_channels.specs.Gate.{Gate, Moved, no_gate, channel_at, is_open, some_live, sent, held}
use Rattle.gate_channels.specs.Queue.{Ready}
use Rattle.core_frame.specs.Step.{wake_all, Send, made, frame_step, moved, goes_on, wake, put_gate, move_to, progress_is}
use Rattle.task_shape.specs.Shape.{Shape, task_at}
use Rattle.fair_pool.specs.Share.{Pool}
use Rattle.run_journal.specs.declared.cause.Cause.{Cause}
use Rattle.core_frame.specs.Frame.{Frame, place_of, gate_of, channel_of}
use Rattle.core_frame.specs.declared.place.Place.{Place}
use Rattle.core_frame.specs.declared.place.Place.TheVariants.{Woken, OwnedBy, AtGate, AtChannel, Done}
use Rattle.run_journal.specs.declared.entry.EntryKind.TheVariants.{Sent, Held, Dropped}
use Rattle.task_shape.specs.Numbers.{count}
use Rattle.core_frame.specs.Good.{IsSound}
use Rattle.gate_channels.specs.Answers.{Sends}
use Rattle.gate_channels.specs.Group.{Grouped, WaitApart, KeepsSize}
use Rattle.core_frame.proofs.Places.{place_cases}
use Rattle.gate_channels.specs.declared.group.Sending.TheVariants as answers
use Rattle.run_frame.specs.Running.{IsRunning, AllAre, OwnersStand, count_unfinished, frame_of}
use Rattle.run_frame.specs.Answers.{is_received}
use Rattle.run_frame.proofs.Owners.{some_owned, owned_inside, owned_fresh}
use Rattle.run_frame.proofs.Kept.{running_going, running_put}
use Rattle.task_shape.specs.Shape.{width, has, receives_at}
use Rattle.core_frame.proofs.Lists.{inside_of}
use Rattle.core_frame.proofs.Sound.{sound}
use Rattle.core_frame.specs.Lawful.{IsLawful, IsFrame}
use Rattle.std.proofs.Math.ListN.{length-set}
use Rattle.run_frame.proofs.Claims.{wake_all_append, wake_all_set}

pub frame_is : {B : Type 0} (pool : Pool) (failure : Option Cause) (a1 a2 : List (Gate B)) (b1 b2 : List ℕ) (c1 c2 : List Place) (d1 d2 : List Bool) → a1 ≡ a2 → b1 ≡ b2 → c1 ≡ c2 → d1 ≡ d2
    → ◌≡◌ {A = Frame B} (record { gates = a1; pool = pool; queue = b1; places = c1; progress = d1; failure = failure }) (record { gates = a2; pool = pool; queue = b2; places = c2; progress = d2; failure = failure })
frame_is {B} pool failure a1 a2 b1 b2 c1 c2 d1 d2 ea eb ec ed =
    ap (λ z. record { gates = z; pool = pool; queue = b1; places = c1; progress = d1; failure = failure }) ea
    ∙ ap (λ z. record { gates = a2; pool = pool; queue = z; places = c1; progress = d1; failure = failure }) eb
    ∙ ap (λ z. record { gates = a2; pool = pool; queue = b2; places = z; progress = d1; failure = failure }) ec
    ∙ ap (λ z. record { gates = a2; pool = pool; queue = b2; places = c2; progress = z; failure = failure }) ed

sent_step : {B : Type 0} (p : Shape) (f : Frame B) (w t g c : ℕ) (b : B) → place_of f t ≡ OwnedBy w → f.failure ≡ None → (task_at p t).sends ≡ Some g → (channel_of f g c).live ≡ true → is_open (gate_of f g).channels ≡ true
    → frame_step p f (record { worker = w; task = t; kind = Sent }) (Send c b) ≡ Some (goes_on (moved f g (sent (gate_of f g) c b)) t)
sent_step p f w t g c b at ok s l o = rw (some_owned f.places t w at, ok, at, eq-eqb w w refl, s, l, o) refl

sent_kind : {B : Type 0} (p : Shape) (f : Frame B) (t g c : ℕ) (b : B) → (task_at p t).sends ≡ Some g → (channel_of f g c).live ≡ true → is_open (gate_of f g).channels ≡ true → (made p f t (Send c b)).kind ≡ Sent
sent_kind p f t g c b s l o = rw (s, l, o) refl

held_step : {B : Type 0} (p : Shape) (f : Frame B) (w t g c : ℕ) (b : B) → place_of f t ≡ OwnedBy w → f.failure ≡ None → (task_at p t).sends ≡ Some g → (channel_of f g c).live ≡ true → is_open (gate_of f g).channels ≡ false
    → frame_step p f (record { worker = w; task = t; kind = Held }) (Send c b) ≡ Some (move_to (put_gate f g (held (gate_of f g) t)) t (AtGate g) f.queue)
held_step p f w t g c b at ok s l o = rw (some_owned f.places t w at, ok, at, eq-eqb w w refl, s, l, o) refl

dropped_step : {B : Type 0} (p : Shape) (f : Frame B) (w t g c : ℕ) (b : B) → place_of f t ≡ OwnedBy w → f.failure ≡ None → (task_at p t).sends ≡ Some g → (channel_of f g c).live ≡ false
    → frame_step p f (record { worker = w; task = t; kind = Dropped }) (Send c b) ≡ Some (goes_on f t)
dropped_step p f w t g c b at ok s l = rw (some_owned f.places t w at, ok, at, eq-eqb w w refl, s, l) refl

pub map_read : {B : Type 0} (gs : List (Grouped B)) (g : ℕ) (x : Grouped B) → g < length gs → x ≡ get_or gs g x → get_or (map (λ y. y.gate) gs) g no_gate ≡ x.gate
map_read [] g x h e = absurd (omega arith)
map_read {B} (y ∷ gs) zero x h e = ap (λ (z : Grouped B). z.gate) (sym e)
map_read (y ∷ gs) (suc g) x h e = map_read gs g x (omega arith) e

module _ {B : Type 0} (p : Shape) (gs : List (Grouped B)) (x x2 : Grouped B) (g t w c : ℕ) (b : B) (pool : Pool) (queue queue2 : List ℕ) (ps : List Place) (pr : List Bool) (fl : Option Cause)
    (ok : fl ≡ None) (inside : g < length gs) (is : x ≡ get_or gs g x) (at : get_or (wake_all queue ps) t Done ≡ OwnedBy w) (s : (task_at p t).sends ≡ Some g) where
  before : Frame B
  before = frame_of gs pool queue ps pr fl

  pub serves_sent : Sends x.gate t c b answers.Sent x2.gate queue queue2
      → frame_step p (frame_of gs pool queue ps pr fl) (record { worker = w; task = t; kind = Sent }) (Send c b) ≡ Some (frame_of (set gs g x2) pool queue2 ps (set pr t true) fl)
  unfolding before wake put_gate progress_is
  serves_sent k =
      let here : gate_of before g ≡ x.gate = map_read gs g x inside is in
      let em : sent x.gate c b ≡ sent (gate_of before g) c b = ap (λ (y : Gate B). sent y c b) (sym here) in
      sent_step p before w t g c b at ok s (ap (λ (y : Gate B). (channel_at y c).live) here ∙ k.0) (ap (λ (y : Gate B). is_open y.channels) here ∙ k.1)
      ∙ ap Some (frame_is pool fl _ (map (λ y. y.gate) (set gs g x2)) _ queue2 _ (wake_all queue2 ps) _ (set pr t true)
      (ap (λ (n : Moved B). set (map (λ (y : Grouped B). y.gate) gs) g n.gate) (sym em) ∙ (ap (set (map (λ (y : Grouped B). y.gate) gs) g) (sym k.2.gate) ∙ sym (map-set (λ (y : Grouped B). y.gate) gs g x2)))
      (ap (λ (n : Moved B). queue ++ n.woken) (sym em) ∙ sym k.2.woken)
      (ap (λ (n : Moved B). wake_all n.woken (wake_all queue ps)) (sym em) ∙ (sym (wake_all_append queue (sent x.gate c b).woken ps) ∙ ap (λ q. wake_all q ps) (sym k.2.woken)))
      refl)

  pub serves_held : (d : B) → Sends x.gate t c b (answers.Held d) x2.gate queue queue2 → count t queue ≡ 0
      → frame_step p (frame_of gs pool queue ps pr fl) (record { worker = w; task = t; kind = Held }) (Send c b) ≡ Some (frame_of (set gs g x2) pool queue2 (set ps t (AtGate g)) pr fl)
  unfolding before wake put_gate move_to
  serves_held d k out =
      let here : gate_of before g ≡ x.gate = map_read gs g x inside is in
      let em : x2.gate ≡ held (gate_of before g) t = k.3.gate ∙ ap (λ (y : Gate B). held y t) (sym here) in
      held_step p before w t g c b at ok s (ap (λ (y : Gate B). (channel_at y c).live) here ∙ k.0) (ap (λ (y : Gate B). is_open y.channels) here ∙ k.1)
      ∙ ap Some (frame_is pool fl _ (map (λ y. y.gate) (set gs g x2)) _ queue2 _ (wake_all queue2 (set ps t (AtGate g))) _ pr
      (ap (set (map (λ (y : Grouped B). y.gate) gs) g) (sym em) ∙ sym (map-set (λ (y : Grouped B). y.gate) gs g x2))
      (sym k.3.woken)
      (sym (wake_all_set queue ps t (AtGate g) out) ∙ ap (λ q. wake_all q (set ps t (AtGate g))) (sym k.3.woken))
      refl)

  pub serves_dropped : (d : B) (last : Bool) → Sends x.gate t c b (answers.Dropped d last) x2.gate queue queue2
      → frame_step p (frame_of gs pool queue ps pr fl) (record { worker = w; task = t; kind = Dropped }) (Send c b) ≡ Some (frame_of (set gs g x2) pool queue2 ps (set pr t true) fl)
  unfolding before progress_is
  serves_dropped d last k =
      let here : gate_of before g ≡ x.gate = map_read gs g x inside is in
      let em : x2.gate ≡ gate_of before g = k.3.gate ∙ sym here in
      dropped_step p before w t g c b at ok s (ap (λ (y : Gate B). (channel_at y c).live) here ∙ k.0)
      ∙ ap Some (frame_is pool fl _ (map (λ y. y.gate) (set gs g x2)) _ queue2 _ (wake_all queue2 ps) _ (set pr t true)
      (sym (set-get_or (map (λ (y : Grouped B). y.gate) gs) g no_gate) ∙ (ap (set (map (λ (y : Grouped B). y.gate) gs) g) (sym em) ∙ sym (map-set (λ (y : Grouped B). y.gate) gs g x2)))
      (sym k.3.woken)
      (ap (λ q. wake_all q ps) (sym k.3.woken))
      refl)

  pub serves_nothing : (d : B) → Sends x.gate t c b (answers.NoMemory d) x2.gate queue queue2 → ◌≡◌ {A = Frame B} (frame_of (set gs g x2) pool queue2 ps pr fl) (frame_of gs pool queue ps pr fl)
  serves_nothing d k =
      let here : get_or (map (λ (y : Grouped B). y.gate) gs) g no_gate ≡ x.gate = map_read gs g x inside is in
      frame_is pool fl (map (λ y. y.gate) (set gs g x2)) _ queue2 _ (wake_all queue2 ps) _ pr pr
      (map-set (λ (y : Grouped B). y.gate) gs g x2 ∙ (ap (set (map (λ (y : Grouped B). y.gate) gs) g) (k.3.gate ∙ sym here) ∙ set-get_or (map (λ (y : Grouped B). y.gate) gs) g no_gate))
      k.3.woken (ap (λ q. wake_all q ps) k.3.woken) refl

-- ------------------------------------------------------------ rooms
pub all_read : {B : Type 0} (n : ℕ) (gs : List (Grouped B)) (g : ℕ) (x : Grouped B) → AllAre n (map (λ y. y.room) gs) → g < length gs → x ≡ get_or gs g x → x.room ≡ n
all_read n [] g x a h e = absurd (omega arith)
all_read {B} n (y ∷ gs) zero x a h e = ap (λ (z : Grouped B). z.room) e ∙ a.0
all_read n (y ∷ gs) (suc g) x a h e = all_read n gs g x a.1 (omega arith) e

pub all_set : {B : Type 0} (n : ℕ) (gs : List (Grouped B)) (g : ℕ) (x : Grouped B) → AllAre n (map (λ y. y.room) gs) → x.room ≡ n → AllAre n (map (λ y. y.room) (set gs g x))
all_set n [] g x a e = a
all_set n (y ∷ gs) zero x a e = (e, a.1)
all_set n (y ∷ gs) (suc g) x a e = (a.0, all_set n gs g x a.1 e)

module _ {B : Type 0} (p : Shape) (gs : List (Grouped B)) (x : Grouped B) (g : ℕ) (pool : Pool) (v : Ready) (ps : List Place) (pr : List Bool) (fl : Option Cause) (left : ℕ)
    (k : IsRunning p gs pool v.tasks v.room ps pr fl left) (inside : g < length gs) (is : x ≡ get_or gs g x) where
  s : IsSound p (frame_of gs pool v.tasks ps pr fl)
  s = sound p (frame_of gs pool v.tasks ps pr fl) k.lawful

  here : get_or (map (λ y. y.gate) gs) g no_gate ≡ x.gate
  here = map_read gs g x inside is

  pub room_is : x.room ≡ length ps
  room_is = all_read (length ps) gs g x k.rooms inside is

  at_gate : (t : ℕ) → 0 < count t x.gate.queue → get_or (wake_all v.tasks ps) t Done ≡ AtGate g
  at_gate t h = elim (place_cases (get_or (wake_all v.tasks ps) t Done) (AtGate g)) [
    | inl e ↦ e
    | inr n ↦ absurd (let z : count t (get_or (map (λ y. y.gate) gs) g no_gate).queue ≡ 0 = s.gate_queue_only t g n in
        let y : count t x.gate.queue ≡ 0 = ap (λ (z : Gate B). count t z.queue) (sym here) ∙ z in omega arith)
  ]

  pub apart : WaitApart x v
  apart = record {
    gate = λ t h. s.queue_only t (λ e. (let z : Woken ≡ AtGate g = sym e ∙ at_gate t h in cc));
    channels = λ c t e. s.queue_only t (λ k. (let z : Woken ≡ AtChannel g c = sym k ∙ s.waiting_only t g c (ap (λ (z : Gate B). (channel_at z c).waiting) here ∙ e) in cc));
    room = (let r : x.room ≡ length ps = room_is in let q : v.room ≡ length ps = k.queue_room in omega arith);
  }

  -- an owned task is not at the gate
  pub idle : (t w : ℕ) → get_or (wake_all v.tasks ps) t Done ≡ OwnedBy w → count t x.gate.queue ≡ 0
  idle t w e = ap (λ (z : Gate B). count t z.queue) (sym here) ∙ s.gate_queue_only t g (λ z. (let y : OwnedBy w ≡ AtGate g = sym e ∙ z in cc))

-- a channel of a group is one of the group that is kept
pub width_inside : {B : Type 0} (p : Shape) (gs : List (Grouped B)) (g c : ℕ) (f : Frame B) → f.gates ≡ map (λ y. y.gate) gs → IsFrame p f → c < width p g → (g < length gs) × ((x : Grouped B) → x ≡ get_or gs g x → c < length x.gate.channels)
width_inside {B} p gs g c f same k wide =
    let group : g < length (map (λ (y : Grouped B). y.gate) gs) = rw (sym same, k.groups) (inside_of p.widths g c wide) in
    let inside : g < length gs = rw length-map at group in
    let long : length (get_or (map (λ (y : Grouped B). y.gate) gs) g no_gate).channels ≡ width p g = ap (λ (ys : List (Gate B)). length (get_or ys g no_gate).channels) (sym same) ∙ k.channels g in
    (inside, λ x is. subst (λ (y : Gate B). c < length y.channels) (map_read gs g x inside is) (rw long wide))

-- a channel that a task may send to, or receives from, is one of its group's
pub target_inside : {B : Type 0} (p : Shape) (gs : List (Grouped B)) (pool : Pool) (queue : List ℕ) (room : ℕ) (ps : List Place) (pr : List Bool) (fl : Option Cause) (left t g c : ℕ)
    → IsRunning p gs pool queue room ps pr fl left → (task_at p t).sends ≡ Some g → has (task_at p t).targets c ≡ true → (g < length gs) × ((x : Grouped B) → x ≡ get_or gs g x → c < length x.gate.channels)
target_inside p gs pool queue room ps pr fl left t g c k s h = width_inside p gs g c (frame_of gs pool queue ps pr fl) refl k.lawful.frame (k.plan.plan.targets_inside t g c (rw (s, eq-eqb g g refl) h))

pub source_inside : {B : Type 0} (p : Shape) (gs : List (Grouped B)) (pool : Pool) (queue : List ℕ) (room : ℕ) (ps : List Place) (pr : List Bool) (fl : Option Cause) (left t g c : ℕ)
    → IsRunning p gs pool queue room ps pr fl left → receives_at p t g c ≡ true → (g < length gs) × ((x : Grouped B) → x ≡ get_or gs g x → c < length x.gate.channels)
source_inside p gs pool queue room ps pr fl left t g c k own = width_inside p gs g c (frame_of gs pool queue ps pr fl) refl k.lawful.frame (k.plan.plan.inside t g c own)

module _ {B : Type 0} (p : Shape) (gs : List (Grouped B)) (x x2 : Grouped B) (g t w c : ℕ) (b : B) (pool : Pool) (v v2 : Ready) (ps : List Place) (pr : List Bool) (fl : Option Cause) (left : ℕ)
    (k : IsRunning p gs pool v.tasks v.room ps pr fl left) (ok : fl ≡ None) (at : get_or (wake_all v.tasks ps) t Done ≡ OwnedBy w) (s : (task_at p t).sends ≡ Some g) (h : has (task_at p t).targets c ≡ true)
    (is : x ≡ get_or gs g x) where
  fits : (g < length gs) × ((x : Grouped B) → x ≡ get_or gs g x → c < length x.gate.channels)
  fits = target_inside p gs pool v.tasks v.room ps pr fl left t g c k s h

  pub send_group : g < length gs
  send_group = fits.0

  pub send_channel : c < length x.gate.channels
  send_channel = fits.1 x is

  pub send_task : t < x.room
  send_task = (let r : x.room ≡ length ps = room_is p gs x g pool v ps pr fl left k send_group is in let i : t < length ps = owned_inside p gs pool v.tasks v.room ps pr fl left w t k ok at in omega arith)

  pub send_idle : count t x.gate.queue ≡ 0
  send_idle = idle p gs x g pool v ps pr fl left k send_group is t w at

  pub send_apart : WaitApart x v
  send_apart = apart p gs x g pool v ps pr fl left k send_group is

  rooms_after : KeepsSize x x2 v v2 → AllAre (length ps) (map (λ y. y.room) (set gs g x2))
  rooms_after size = all_set (length ps) gs g x2 k.rooms (size.room ∙ room_is p gs x g pool v ps pr fl left k send_group is)

  pub sent_frame : Sends x.gate t c b answers.Sent x2.gate v.tasks v2.tasks → frame_step p (frame_of gs pool v.tasks ps pr fl) (record { worker = w; task = t; kind = Sent }) (Send c b) ≡ Some (frame_of (set gs g x2) pool v2.tasks ps (set pr t true) fl)
  sent_frame q = serves_sent p gs x x2 g t w c b pool v.tasks v2.tasks ps pr fl ok send_group is at s q

  pub sent_running : KeepsSize x x2 v v2 → Sends x.gate t c b answers.Sent x2.gate v.tasks v2.tasks → IsRunning p (set gs g x2) pool v2.tasks v2.room ps (set pr t true) fl left
  sent_running size q = running_going p gs (set gs g x2) pool pool v.tasks v2.tasks v.room v2.room ps pr (set pr t true) fl fl left (record { worker = w; task = t; kind = Sent }) (Send c b) k (g, s, h) (sent_frame q) refl (length-set pr t true) size.queue_room (rooms_after size) refl

  pub held_frame : (d : B) → Sends x.gate t c b (answers.Held d) x2.gate v.tasks v2.tasks → frame_step p (frame_of gs pool v.tasks ps pr fl) (record { worker = w; task = t; kind = Held }) (Send c b) ≡ Some (frame_of (set gs g x2) pool v2.tasks (set ps t (AtGate g)) pr fl)
  held_frame d q = serves_held p gs x x2 g t w c b pool v.tasks v2.tasks ps pr fl ok send_group is at s d q (owned_fresh p gs pool v.tasks v.room ps pr fl left w t k ok at)

  pub held_running : (d : B) → KeepsSize x x2 v v2 → Sends x.gate t c b (answers.Held d) x2.gate v.tasks v2.tasks → IsRunning p (set gs g x2) pool v2.tasks v2.room (set ps t (AtGate g)) pr fl left
  held_running d size q = running_put p gs (set gs g x2) pool pool v.tasks v2.tasks v.room v2.room ps pr pr fl fl left (record { worker = w; task = t; kind = Held }) (Send c b) k (g, s, h) (AtGate g) (held_frame d q) refl (λ u z. cc) refl size.queue_room (rooms_after size) refl

  pub dropped_frame : (d : B) (last : Bool) → Sends x.gate t c b (answers.Dropped d last) x2.gate v.tasks v2.tasks → frame_step p (frame_of gs pool v.tasks ps pr fl) (record { worker = w; task = t; kind = Dropped }) (Send c b) ≡ Some (frame_of (set gs g x2) pool v2.tasks ps (set pr t true) fl)
  dropped_frame d last q = serves_dropped p gs x x2 g t w c b pool v.tasks v2.tasks ps pr fl ok send_group is at s d last q

  pub dropped_received : (d : B) (last : Bool) → Sends x.gate t c b (answers.Dropped d last) x2.gate v.tasks v2.tasks → last ≡ not (is_received (frame_of gs pool v.tasks ps pr fl) (task_at p t).sends)
  dropped_received d last q = q.2 ∙ (ap (λ (y : Gate B). not (some_live y.channels)) (sym (map_read gs g x send_group is)) ∙ ap (λ o. not (is_received (frame_of gs pool v.tasks ps pr fl) o)) (sym s))

  pub dropped_running : (d : B) (last : Bool) → KeepsSize x x2 v v2 → Sends x.gate t c b (answers.Dropped d last) x2.gate v.tasks v2.tasks → IsRunning p (set gs g x2) pool v2.tasks v2.room ps (set pr t true) fl left
  dropped_running d last size q = running_going p gs (set gs g x2) pool pool v.tasks v2.tasks v.room v2.room ps pr (set pr t true) fl fl left (record { worker = w; task = t; kind = Dropped }) (Send c b) k (g, s, h) (dropped_frame d last q) refl (length-set pr t true) size.queue_room (rooms_after size) refl

  pub nothing_frame : (d : B) → Sends x.gate t c b (answers.NoMemory d) x2.gate v.tasks v2.tasks → ◌≡◌ {A = Frame B} (frame_of (set gs g x2) pool v2.tasks ps pr fl) (frame_of gs pool v.tasks ps pr fl)
  nothing_frame d q = serves_nothing p gs x x2 g t w c b pool v.tasks v2.tasks ps pr fl ok send_group is at s d q

  -- it is a send that failed
  pub nothing_kind : (d : B) → Sends x.gate t c b (answers.NoMemory d) x2.gate v.tasks v2.tasks → (made p (frame_of gs pool v.tasks ps pr fl) t (Send c b)).kind ≡ Sent
  nothing_kind d q =
      let gate : gate_of (frame_of gs pool v.tasks ps pr fl) g ≡ x.gate = map_read gs g x send_group is in
      sent_kind p (frame_of gs pool v.tasks ps pr fl) t g c b s (ap (λ (y : Gate B). (channel_at y c).live) gate ∙ q.0) (ap (λ (y : Gate B). is_open y.channels) gate ∙ q.1)

  pub nothing_running : (d : B) → KeepsSize x x2 v v2 → Sends x.gate t c b (answers.NoMemory d) x2.gate v.tasks v2.tasks → IsRunning p (set gs g x2) pool v2.tasks v2.room ps pr fl left
  nothing_running d size q = record {
    plan = k.plan;
    lawful = subst (IsLawful p) (sym (nothing_frame d q)) k.lawful;
    long = k.long;
    queue_room = size.queue_room ∙ k.queue_room;
    rooms = rooms_after size;
    spillable = k.spillable;
    owned = subst (λ ws. OwnersStand ws ps) (sym q.3.woken) k.owned;
    unended = k.unended ∙ ap (λ ws. count_unfinished (wake_all ws ps)) (sym q.3.woken);
  }
