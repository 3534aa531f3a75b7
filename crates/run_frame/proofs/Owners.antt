-- Entries of an owner that move no batch.
use Rattle.std.proofs.Common.{ℕ, zero, suc, ◌-◌, ◌<◌, ◌≡◌, inl, inr, refl, sym, ap, ◌∙◌, subst, List, [], ◌∷◌, ◌++◌, length, get_or, set, map, cond, Bool, true, false, ◌&&◌, not, Option, Some, None, arith}
use Rattle.std.proofs.lemmas.Bool.{eq-eqb}
use Rattle.std.proofs.Math.ListN.{length-set, get_or-eq_default}
use Rattle.run_journal.specs.declared.cause.Cause.{Cause}
use Rattle.run_journal.specs.declared.entry.EntryKind.TheVariants.{Scanned, Freed, Wrote, Yielded, Failed}
use Rattle.run_journal.specs.SameKind.{same_kind}
use Rattle.run_journal.proofs.SameKind.{kind_same}
use Rattle.task_shape.specs.Numbers.{count}
use Rattle.gate_channels.specs.Group.{Grouped}
use Rattle.task_shape.proofs.Numbers.{lt_or_le}
use Rattle.fair_pool.specs.Share.{Pool, with_held, held_by}
use Rattle.core_frame.specs.declared.place.Place.{Place}
use Rattle.core_frame.specs.declared.place.Place.TheVariants.{Woken, OwnedBy, Done}
use Rattle.task_shape.specs.Shape.{Shape, task_at, has}
use Rattle.core_frame.specs.Frame.{Frame, place_of, all_done, unfinished}
use Rattle.core_frame.specs.Step.{Need, Scan, Free, Writes, Fail, frame_step, wake_all, goes_on, yielded, failed, owner_step, may_fail, made, move_to, with_pool, progress_is}
use Rattle.core_frame.proofs.Places.{length_wake_all}
use Rattle.core_frame.proofs.Sound.{sound}
use Rattle.run_frame.specs.Running.{IsRunning, frame_of}
use Rattle.run_frame.proofs.Claims.{wake_all_append, wake_all_set, set_twice}
use Rattle.run_frame.proofs.Kept.{running_going, running_put}

pub some_owned : (ps : List Place) (t w : ℕ) → get_or ps t Done ≡ OwnedBy w → all_done ps ≡ false
some_owned [] t w e = cc
some_owned (q ∷ ps) zero w e = rw e refl
some_owned (q ∷ ps) (suc t) w e = rw (some_owned ps t w e) (and_false (not (unfinished q)))
  where
    and_false : (b : Bool) → b && false ≡ false
    and_false true = refl
    and_false false = refl

scanned_step : {B : Type 0} (p : Shape) (f : Frame B) (w t : ℕ) → place_of f t ≡ OwnedBy w → f.failure ≡ None → frame_step p f (record { worker = w; task = t; kind = Scanned }) Scan ≡ Some (goes_on f t)
scanned_step p f w t at ok = rw (some_owned f.places t w at, ok, at, eq-eqb w w refl) refl

wrote_step : {B : Type 0} (p : Shape) (f : Frame B) (w t : ℕ) → place_of f t ≡ OwnedBy w → f.failure ≡ None → frame_step p f (record { worker = w; task = t; kind = Wrote }) Writes ≡ Some (goes_on f t)
wrote_step p f w t at ok = rw (some_owned f.places t w at, ok, at, eq-eqb w w refl) refl

pub yielded_step : {B : Type 0} (p : Shape) (f : Frame B) (w t : ℕ) (n : Need B) → place_of f t ≡ OwnedBy w → f.failure ≡ None → get_or f.progress t false ≡ true → frame_step p f (record { worker = w; task = t; kind = Yielded }) n ≡ Some (yielded f t)
yielded_step p f w t n at ok made = rw (some_owned f.places t w at, ok, at, eq-eqb w w refl, made) refl

freed_step : {B : Type 0} (p : Shape) (f : Frame B) (w t c bytes : ℕ) → place_of f t ≡ OwnedBy w → f.failure ≡ None → frame_step p f (record { worker = w; task = t; kind = Freed }) (Free c bytes) ≡ Some (goes_on (with_pool f (with_held f.pool c 0)) t)
freed_step p f w t c bytes at ok = rw (some_owned f.places t w at, ok, at, eq-eqb w w refl) refl

failed_owner : {B : Type 0} (p : Shape) (f : Frame B) (t : ℕ) (cause : Cause) → owner_step p f t (Failed cause) (Fail cause) ≡ Some (failed f cause)
failed_owner {B} p f t cause = go (may_fail (Failed cause))
  where
    go : (b : Bool) → ◌≡◌ {A = Option (Frame B)} (cond b (Some (failed f cause)) (cond (same_kind (Failed cause) (Failed cause)) (Some (failed f cause)) None)) (Some (failed f cause))
    go true = refl
    go false = rw (kind_same (Failed cause)) refl

failed_step : {B : Type 0} (p : Shape) (f : Frame B) (w t : ℕ) (cause : Cause) → place_of f t ≡ OwnedBy w → f.failure ≡ None → frame_step p f (record { worker = w; task = t; kind = Failed cause }) (Fail cause) ≡ Some (failed f cause)
unfolding failed
failed_step p f w t cause at ok = rw (some_owned f.places t w at, ok, at, eq-eqb w w refl) (failed_owner p f t cause)

-- the run fails for want of memory or of a device, whatever the need is
failed_device : {B : Type 0} (p : Shape) (f : Frame B) (w t : ℕ) (cause : Cause) (n : Need B) → place_of f t ≡ OwnedBy w → f.failure ≡ None → may_fail (Failed cause) ≡ true → frame_step p f (record { worker = w; task = t; kind = Failed cause }) n ≡ Some (failed f cause)
failed_device p f w t cause n at ok m = rw (some_owned f.places t w at, ok, at, eq-eqb w w refl, m) refl

pub failed_is : {B : Type 0} (gs : List (Grouped B)) (pool : Pool) (queue : List ℕ) (ps : List Place) (pr : List Bool) (fl : Option Cause) (cause : Cause)
    → ◌≡◌ {A = Frame B} (frame_of gs pool queue ps pr (Some cause)) (failed (frame_of gs pool queue ps pr fl) cause)
unfolding failed
failed_is gs pool queue ps pr fl cause = refl

-- a consumer of a task is one of the pool
pub consumer_inside : {B : Type 0} (p : Shape) (gs : List (Grouped B)) (pool : Pool) (queue : List ℕ) (room : ℕ) (ps : List Place) (pr : List Bool) (fl : Option Cause) (left t c : ℕ)
    → IsRunning p gs pool queue room ps pr fl left → has (task_at p t).consumers c ≡ true → c < length pool.spillable
consumer_inside p gs pool queue room ps pr fl left t c k own = subst (λ xs. c < length xs) (sym k.spillable) (k.plan.owners.within t c own)

module _ {B : Type 0} (p : Shape) (gs : List (Grouped B)) (pool : Pool) (queue : List ℕ) (room : ℕ) (ps : List Place) (pr : List Bool) (fl : Option Cause) (left w t : ℕ)
    (k : IsRunning p gs pool queue room ps pr fl left) (ok : fl ≡ None) (at : get_or (wake_all queue ps) t Done ≡ OwnedBy w) where
  before : Frame B
  before = frame_of gs pool queue ps pr fl

  pub owned_inside : t < length ps
  owned_inside = elim (lt_or_le t (length ps)) [
    | inl h ↦ h
    | inr h ↦ absurd (let z : get_or (wake_all queue ps) t Done ≡ Done = get_or-eq_default (wake_all queue ps) Done (let l : length (wake_all queue ps) ≡ length ps = length_wake_all queue ps in omega arith) in
        let y : OwnedBy w ≡ Done = sym at ∙ z in (let x : ⊥ = cc in x))
  ]

  pub owned_fresh : count t queue ≡ 0
  unfolding before
  owned_fresh = (sound p before k.lawful).queue_only t (λ e. (let z : OwnedBy w ≡ Woken = sym at ∙ e in cc))

  pub scans : frame_step p (frame_of gs pool queue ps pr fl) (record { worker = w; task = t; kind = Scanned }) Scan ≡ Some (frame_of gs pool queue ps (set pr t true) fl)
  unfolding before progress_is
  scans = scanned_step p before w t at ok

  pub writes : frame_step p (frame_of gs pool queue ps pr fl) (record { worker = w; task = t; kind = Wrote }) Writes ≡ Some (frame_of gs pool queue ps (set pr t true) fl)
  unfolding before progress_is
  writes = wrote_step p before w t at ok

  pub scans_running : IsRunning p gs pool queue room ps (set pr t true) fl left
  scans_running = running_going p gs gs pool pool queue queue room room ps pr (set pr t true) fl fl left (record { worker = w; task = t; kind = Scanned }) Scan k tt scans refl (length-set pr t true) refl k.rooms refl

  pub yields : (n : Need B) (queue2 : List ℕ) → get_or pr t false ≡ true → queue2 ≡ queue ++ t ∷ [] → frame_step p (frame_of gs pool queue ps pr fl) (record { worker = w; task = t; kind = Yielded }) n ≡ Some (frame_of gs pool queue2 (set ps t Woken) pr fl)
  unfolding before move_to
  yields n queue2 made eq = yielded_step p before w t n at ok made ∙ ap Some (
      ap (λ qs. record { gates = map (λ (g : Grouped B). g.gate) gs; pool = pool; queue = queue ++ t ∷ []; places = qs; progress = pr; failure = fl })
      (sym (wake_all_append queue (t ∷ []) (set ps t Woken) ∙ (ap (λ (qs : List Place). set qs t Woken) (wake_all_set queue ps t Woken owned_fresh) ∙ set_twice (wake_all queue ps) t Woken Woken)))
      ∙ ap (λ q. frame_of gs pool q (set ps t Woken) pr fl) (sym eq))

  pub yields_running : (queue2 : List ℕ) (room2 : ℕ) → get_or pr t false ≡ true → queue2 ≡ queue ++ t ∷ [] → room2 ≡ room → IsRunning p gs pool queue2 room2 (set ps t Woken) pr fl left
  yields_running queue2 room2 made eq e = running_put p gs gs pool pool queue queue2 room room2 ps pr pr fl fl left (record { worker = w; task = t; kind = Yielded }) Scan k tt Woken (yields Scan queue2 made eq) refl (λ v z. cc) refl e k.rooms refl

  pub frees : (c bytes : ℕ) (pool2 : Pool) → pool2 ≡ with_held pool c (held_by pool c - held_by pool c) → frame_step p (frame_of gs pool queue ps pr fl) (record { worker = w; task = t; kind = Freed }) (Free c bytes) ≡ Some (frame_of gs pool2 queue ps (set pr t true) fl)
  unfolding before progress_is with_pool
  frees c bytes pool2 e =
      let none : held_by pool c - held_by pool c ≡ 0 = omega arith in
      freed_step p before w t c bytes at ok ∙ ap (λ x. Some (frame_of gs x queue ps (set pr t true) fl)) (ap (with_held pool c) (sym none) ∙ sym e)

  pub frees_running : (c : ℕ) (pool2 : Pool) → has (task_at p t).consumers c ≡ true → pool2 ≡ with_held pool c (held_by pool c - held_by pool c) → IsRunning p gs pool2 queue room ps (set pr t true) fl left
  frees_running c pool2 own e = running_going p gs gs pool pool2 queue queue room room ps pr (set pr t true) fl fl left (record { worker = w; task = t; kind = Freed }) (Free c 0) k own (frees c 0 pool2 e) refl (length-set pr t true) refl k.rooms (ap (λ (x : Pool). x.spillable) e)

  pub fails : (cause : Cause) → frame_step p (frame_of gs pool queue ps pr fl) (record { worker = w; task = t; kind = Failed cause }) (Fail cause) ≡ Some (frame_of gs pool queue ps pr (Some cause))
  unfolding before failed
  fails cause = failed_step p before w t cause at ok

  pub fails_device : (cause : Cause) → may_fail (Failed cause) ≡ true → (n : Need B) → frame_step p (frame_of gs pool queue ps pr fl) (record { worker = w; task = t; kind = Failed cause }) n ≡ Some (frame_of gs pool queue ps pr (Some cause))
  unfolding before failed
  fails_device cause m n = failed_device p before w t cause n at ok m

  pub fails_running : (cause : Cause) → IsRunning p gs pool queue room ps pr (Some cause) left
  fails_running cause = running_going p gs gs pool pool queue queue room room ps pr pr fl (Some cause) left (record { worker = w; task = t; kind = Failed cause }) (Fail cause) k tt (fails cause) refl refl refl k.rooms refl
