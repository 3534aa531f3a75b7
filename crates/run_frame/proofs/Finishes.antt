-- A task ends by the calls of its groups and its pool.
use Rattle.std.proofs.Common.{ℕ, zero, suc, ◌-◌, ◌<◌, ◌≤◌, ◌≡◌, inl, inr, refl, sym, ap, ◌∙◌, subst, List, [], length, get_or, set, map, Bool, true, ◌&&◌, Option, Some, None, arith}
use Rattle.std.proofs.lemmas.Bool.{eq-eqb}
use Rattle.run_journal.specs.declared.cause.Cause.{Cause}
use Rattle.run_journal.specs.declared.entry.EntryKind.TheVariants.{Finished}
use Rattle.gate_channels.specs.Queue.{Ready}
use Rattle.task_shape.specs.Numbers.{count}
use Rattle.gate_channels.specs.Group.{Grouped}
use Rattle.fair_pool.specs.Share.{Pool}
use Rattle.task_shape.proofs.Numbers.{same_or_not}
use Rattle.task_shape.specs.Shape.{Shape, TaskShape, task_at, has, sends_at, count_below}
use Rattle.core_frame.specs.Frame.{Frame, place_of, channel_of, unfinished}
use Rattle.core_frame.specs.declared.place.Place.{Place}
use Rattle.core_frame.specs.declared.place.Place.TheVariants.{Woken, OwnedBy, Done}
use Rattle.core_frame.specs.Step.{Finish, wake_all, with_pool, move_to, drops, ends, released, finished, frame_step}
use Rattle.core_frame.specs.Lawful.{IsFrame}
use Rattle.core_frame.proofs.Finishing.{After, Drops, drops_after}
use Rattle.core_frame.proofs.Places.{is_at_no, length_wake_all}
use Rattle.core_frame.proofs.Steps.{frame_same}
use Rattle.run_frame.specs.Running.{IsRunning, AllAre, count_unfinished, frame_of}
use Rattle.run_frame.specs.Leaving.{bare, Leaves, EndsSenders, IsEnding, left_by}
use Rattle.run_frame.proofs.Claims.{wake_all_set}
use Rattle.run_frame.proofs.Kept.{running_ended, some_unended}
use Rattle.run_frame.proofs.Owners.{some_owned, owned_inside}
use Rattle.run_frame.proofs.Stepped.{ends_after_drops}

finished_step : {B : Type 0} (p : Shape) (f : Frame B) (w t : ℕ) → place_of f t ≡ OwnedBy w → f.failure ≡ None → frame_step p f (record { worker = w; task = t; kind = Finished }) Finish ≡ Some (finished p f t)
finished_step p f w t at ok = rw (some_owned f.places t w at, ok, at, eq-eqb w w refl) refl

count_some : (n t : ℕ) (P : ℕ → Bool) → t < n → P t ≡ true → 0 < count_below n P
count_some zero t P h e = absurd (omega arith)
count_some (suc n) t P h e = elim (same_or_not t n) [
  | inl s ↦ (let y : P n ≡ true = subst (λ j. P j ≡ true) s e in rw y (omega arith))
  | inr m ↦ (let r : 0 < count_below n P = count_some n t P (omega arith) e in omega arith)
]

module _ {B : Type 0} (p : Shape) (gs : List (Grouped B)) (pool : Pool) (v : Ready) (ps : List Place) (pr : List Bool) (fl : Option Cause) (left w t : ℕ)
    (k : IsRunning p gs pool v.tasks v.room ps pr fl left) (ok : fl ≡ None) (at : get_or (wake_all v.tasks ps) t Done ≡ OwnedBy w) where
  bare_is : IsFrame p (bare gs v.tasks ps)
  bare_is = frame_same p (frame_of gs pool v.tasks ps pr fl) (bare gs v.tasks ps) refl refl refl (omega arith) k.lawful.frame

  pub finish_task : t < length p.tasks
  finish_task =
      let i : t < length ps = owned_inside p gs pool v.tasks v.room ps pr fl left w t k ok at in
      let l : length (wake_all v.tasks ps) ≡ length ps = length_wake_all v.tasks ps in
      let m : length (wake_all v.tasks ps) ≡ length p.tasks = k.lawful.frame.tasks in omega arith

  pub finish_ending : IsEnding p t gs v pool
  finish_ending = record {
    places = ps;
    plan = k.plan;
    stands = record { frame = bare_is; queue = k.queue_room; rooms = k.rooms };
    inside = finish_task;
    unended = λ g c s. (let b : (channel_of (bare gs v.tasks ps) g c).unended ≡ count_below (length p.tasks) (λ u. sends_at p u g c && unfinished (get_or (wake_all v.tasks ps) u Done)) = k.lawful.counted.unended g c in
        let d : 0 < count_below (length p.tasks) (λ u. sends_at p u g c && unfinished (get_or (wake_all v.tasks ps) u Done)) =
        count_some (length p.tasks) t (λ u. sends_at p u g c && unfinished (get_or (wake_all v.tasks ps) u Done)) finish_task (rw (s, at) refl) in
        omega arith);
    spillable = k.spillable;
  }

  pub finish_left : 0 < left
  finish_left = (let u : left ≡ count_unfinished (wake_all v.tasks ps) = k.unended in let s : 0 < count_unfinished (wake_all v.tasks ps) = some_unended (wake_all v.tasks ps) t (ap unfinished at) in omega arith)

module _ {B : Type 0} (p : Shape) (t : ℕ) (gs gs1 : List (Grouped B)) (v v1 : Ready) (pool : Pool) (k : IsEnding p t gs v pool)
    (frame1 : (pool : Pool) (places : List Place) (progress : List Bool) (failure : Option Cause) → ◌≡◌ {A = Frame B} (frame_of gs1 pool v1.tasks places progress failure) (drops (task_at p t).receives (frame_of gs pool v.tasks places progress failure)))
    (rooms1 : map (λ y. y.room) gs1 ≡ map (λ y. y.room) gs) (queue1 : v1.room ≡ v.room) where
  bare1 : ◌≡◌ {A = Frame B} (bare gs1 v1.tasks k.places) (drops (task_at p t).receives (bare gs v.tasks k.places))
  bare1 = frame1 (record { limit = 0; spillable = []; held = [] }) k.places [] None

  after1 : Drops p (bare gs v.tasks k.places) (drops (task_at p t).receives (bare gs v.tasks k.places)) (task_at p t).receives
  after1 = drops_after p (task_at p t).receives (bare gs v.tasks k.places) k.stands.frame (k.plan.plan.inside t)

  pub leave_ends : (g : ℕ) → (task_at p t).sends ≡ Some g → EndsSenders gs1 v1 g (task_at p t).targets
  leave_ends g s = record {
    shape = p;
    places = k.places;
    stands = record { frame = subst (IsFrame {B = B} p) (sym bare1) after1.after.frame; queue = queue1 ∙ k.stands.queue; rooms = subst (AllAre (length k.places)) (sym rooms1) k.stands.rooms };
    inside = λ c h. k.plan.plan.targets_inside t g c (sends c h);
    enough = λ c h. (let o : count c (task_at p t).targets ≤ 1 = k.plan.plan.once t c in
        let a : (channel_of (bare gs1 v1.tasks k.places) g c).unended ≡ (channel_of (bare gs v.tasks k.places) g c).unended = ap (λ (f : Frame B). (channel_of f g c).unended) bare1 ∙ after1.unended g c in
        let d : 0 < (channel_of (bare gs v.tasks k.places) g c).unended = k.unended g c (sends c h) in
        omega arith);
  }
    where
      sends : (c : ℕ) → has (task_at p t).targets c ≡ true → sends_at p t g c ≡ true
      sends c h = rw (s, eq-eqb g g refl) h

-- the same by the lists that were read
pub leaving_ends : {B : Type 0} (p : Shape) (t : ℕ) (gs gs1 : List (Grouped B)) (v v1 : Ready) (pool : Pool) → IsEnding p t gs v pool → (receives : List (ℕ × ℕ)) (targets : List ℕ) (sends : Option ℕ)
    → receives ≡ (task_at p t).receives → targets ≡ (task_at p t).targets → sends ≡ (task_at p t).sends
    → ((pool : Pool) (places : List Place) (progress : List Bool) (failure : Option Cause) → ◌≡◌ {A = Frame B} (frame_of gs1 pool v1.tasks places progress failure) (drops receives (frame_of gs pool v.tasks places progress failure)))
    → map (λ y. y.room) gs1 ≡ map (λ y. y.room) gs → v1.room ≡ v.room → (g : ℕ) → sends ≡ Some g → EndsSenders gs1 v1 g targets
leaving_ends {B} p t gs gs1 v v1 pool k receives targets sends er et es frame1 rooms1 queue1 g s =
    subst (λ ts. EndsSenders gs1 v1 g ts) (sym et) (leave_ends p t gs gs1 v v1 pool k
    (λ x pl pr fl. frame1 x pl pr fl ∙ ap (λ xs. drops xs (frame_of gs x v.tasks pl pr fl)) er) rooms1 queue1 g (sym es ∙ s))

pub leave_drops : {B : Type 0} (p : Shape) (t : ℕ) (gs : List (Grouped B)) (v : Ready) (pool : Pool) → IsEnding p t gs v pool → Leaves gs v (task_at p t).receives
leave_drops p t gs v pool k = record { shape = p; places = k.places; stands = k.stands; inside = k.plan.plan.inside t }

pub leave_consumers : {B : Type 0} (p : Shape) (t : ℕ) (gs : List (Grouped B)) (v : Ready) (pool : Pool) → IsEnding p t gs v pool → (c : ℕ) → has (task_at p t).consumers c ≡ true → c < length pool.spillable
leave_consumers p t gs v pool k c h = subst (λ xs. c < length xs) (sym k.spillable) (k.plan.owners.within t c h)

pub leave_frame : {B : Type 0} (s : TaskShape) (gs gs1 gs2 : List (Grouped B)) (q q1 q2 : List ℕ) (pool pool2 : Pool) (places : List Place) (progress : List Bool) (failure : Option Cause)
    → ((pool : Pool) (places : List Place) (progress : List Bool) (failure : Option Cause) → ◌≡◌ {A = Frame B} (frame_of gs1 pool q1 places progress failure) (drops s.receives (frame_of gs pool q places progress failure)))
    → ((pool : Pool) (places : List Place) (progress : List Bool) (failure : Option Cause) → ◌≡◌ {A = Frame B} (frame_of gs2 pool q2 places progress failure) (ends s.sends s.targets (frame_of gs1 pool q1 places progress failure)))
    → pool2 ≡ released s.consumers pool
    → ◌≡◌ {A = Frame B} (frame_of gs2 pool2 q2 places progress failure) (left_by s (frame_of gs pool q places progress failure))
unfolding with_pool
leave_frame {B} s gs gs1 gs2 q q1 q2 pool pool2 places progress failure frame1 frame2 e =
    ap (λ x. frame_of gs2 x q2 places progress failure) e
    ∙ ap (λ (f : Frame B). with_pool f (released s.consumers f.pool)) (frame2 pool places progress failure ∙ ap (ends s.sends s.targets) (frame1 pool places progress failure))

pub leaving_frame : {B : Type 0} (s : TaskShape) (gs gs1 gs2 : List (Grouped B)) (q q1 q2 : List ℕ) (pool pool2 : Pool) (receives : List (ℕ × ℕ)) (targets consumers : List ℕ) (sends : Option ℕ)
    → receives ≡ s.receives → targets ≡ s.targets → consumers ≡ s.consumers → sends ≡ s.sends
    → ((pool : Pool) (places : List Place) (progress : List Bool) (failure : Option Cause) → ◌≡◌ {A = Frame B} (frame_of gs1 pool q1 places progress failure) (drops receives (frame_of gs pool q places progress failure)))
    → ((pool : Pool) (places : List Place) (progress : List Bool) (failure : Option Cause) → ◌≡◌ {A = Frame B} (frame_of gs2 pool q2 places progress failure) (ends sends targets (frame_of gs1 pool q1 places progress failure)))
    → pool2 ≡ released consumers pool → (places : List Place) (progress : List Bool) (failure : Option Cause)
    → ◌≡◌ {A = Frame B} (frame_of gs2 pool2 q2 places progress failure) (left_by s (frame_of gs pool q places progress failure))
leaving_frame {B} s gs gs1 gs2 q q1 q2 pool pool2 receives targets consumers sends er et ec es frame1 frame2 e places progress failure =
    leave_frame s gs gs1 gs2 q q1 q2 pool pool2 places progress failure
    (λ x pl pr fl. frame1 x pl pr fl ∙ ap (λ xs. drops xs (frame_of gs x q pl pr fl)) er)
    (λ x pl pr fl. frame2 x pl pr fl ∙ (ap (λ ts. ends sends ts (frame_of gs1 x q1 pl pr fl)) et ∙ ap (λ o. ends o s.targets (frame_of gs1 x q1 pl pr fl)) es))
    (e ∙ ap (λ cs. released cs pool) ec)

module _ {B : Type 0} (p : Shape) (gs gs2 : List (Grouped B)) (pool pool2 : Pool) (v v2 : Ready) (ps : List Place) (pr : List Bool) (fl : Option Cause) (left w t : ℕ)
    (k : IsRunning p gs pool v.tasks v.room ps pr fl left) (ok : fl ≡ None) (at : get_or (wake_all v.tasks ps) t Done ≡ OwnedBy w)
    (frame2 : (places : List Place) (progress : List Bool) (failure : Option Cause) → ◌≡◌ {A = Frame B} (frame_of gs2 pool2 v2.tasks places progress failure) (left_by (task_at p t) (frame_of gs pool v.tasks places progress failure)))
    (rooms2 : map (λ y. y.room) gs2 ≡ map (λ y. y.room) gs) (queue2 : v2.room ≡ v.room) (spill2 : pool2.spillable ≡ pool.spillable) where
  before : Frame B
  before = frame_of gs pool v.tasks ps pr fl

  after : After p before (ends (task_at p t).sends (task_at p t).targets (drops (task_at p t).receives before))
  unfolding before
  after = ends_after_drops p before t (task_at p t).sends k.plan.plan k.lawful.frame refl

  -- the calls leave the owner
  still : get_or (wake_all v2.tasks ps) t Done ≡ OwnedBy w
  unfolding before with_pool
  still = ap (λ (f : Frame B). place_of f t) (frame2 ps pr fl) ∙ after.owner t w at

  fresh : count t v2.tasks ≡ 0
  unfolding before with_pool
  fresh =
      let e : v2.tasks ≡ (ends (task_at p t).sends (task_at p t).targets (drops (task_at p t).receives before)).queue = ap (λ (f : Frame B). f.queue) (frame2 ps pr fl) in
      ap (count t) e ∙ (after.frame.located.each Woken refl t ∙ is_at_no Woken (place_of (ends (task_at p t).sends (task_at p t).targets (drops (task_at p t).receives before)) t) (λ z. (let y : Woken ≡ OwnedBy w = z ∙ after.owner t w at in cc)))

  pub finish_frame : frame_step p (frame_of gs pool v.tasks ps pr fl) (record { worker = w; task = t; kind = Finished }) Finish ≡ Some (frame_of gs2 pool2 v2.tasks (set ps t Done) pr fl)
  unfolding before move_to
  finish_frame =
      finished_step p (frame_of gs pool v.tasks ps pr fl) w t at ok ∙ ap Some (sym (ap (λ (f : Frame B). move_to f t Done f.queue) (frame2 ps pr fl))
      ∙ ap (λ q. record { gates = map (λ y. y.gate) gs2; pool = pool2; queue = v2.tasks; places = q; progress = pr; failure = fl }) (sym (wake_all_set v2.tasks ps t Done fresh)))

  pub finish_running : IsRunning p gs2 pool2 v2.tasks v2.room (set ps t Done) pr fl (left - 1)
  finish_running = running_ended p gs gs2 pool pool2 v.tasks v2.tasks v.room v2.room ps pr pr fl fl left (record { worker = w; task = t; kind = Finished }) Finish k tt finish_frame refl refl queue2
      (subst (AllAre (length ps)) (sym rooms2) k.rooms) spill2 (left - 1)
      (let l : 0 < left = finish_left p gs pool v ps pr fl left w t k ok at in omega arith)
