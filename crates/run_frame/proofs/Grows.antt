-- Serving a Grow is a step of the frame.
use Rattle.std.proofs.Common.{ℕ, ◌+◌, ◌<◌, ◌≤◌, ◌≡◌, ◌⊎◌, inl, inr, refl, sym, ap, ◌∙◌, List, get_or, set, eqb, Bool, true, false, ◌&&◌, not, Option, Some, None, arith}
use Rattle.std.proofs.lemmas.Bool.{eq-eqb}
use Rattle.std.proofs.lemmas.Bool.Decides.{leb_tells, eqb_tells}
use Rattle.std.proofs.Math.ListN.{length-set}
use Rattle.run_journal.specs.declared.cause.Cause.{Cause}
use Rattle.run_journal.specs.declared.cause.Cause.TheVariants.{Exhausted}
use Rattle.run_journal.specs.declared.entry.EntryKind.TheVariants.{Granted, Refused, Failed}
use Rattle.run_journal.proofs.SameKind.{kind_same}
use Rattle.gate_channels.specs.Group.{Grouped}
use Rattle.fair_pool.specs.Share.{Pool, held_by, share_of, can_spill, grants, with_held}
use Rattle.task_shape.specs.Shape.{Shape, task_at, has}
use Rattle.core_frame.specs.Frame.{Frame, place_of}
use Rattle.core_frame.specs.declared.place.Place.{Place}
use Rattle.core_frame.specs.declared.place.Place.TheVariants.{OwnedBy, Done}
use Rattle.core_frame.specs.Step.{Grow, frame_step, goes_on, with_pool, failed, progress_is, wake_all}
use Rattle.run_frame.specs.Running.{IsRunning, frame_of}
use Rattle.run_frame.proofs.Kept.{running_going}
use Rattle.run_frame.proofs.Owners.{some_owned}

grants_yes : (p : Pool) (c b : ℕ) → held_by p c + b ≤ share_of p c → grants p c b ≡ true
unfolding grants
grants_yes p c b h = elim (leb_tells (held_by p c + b) (share_of p c)) [ inl w ↦ w.0 | inr w ↦ absurd (omega (arith, h, w.1)) ]

grants_no : (p : Pool) (c b : ℕ) → share_of p c < held_by p c + b → grants p c b ≡ false
unfolding grants
grants_no p c b h = elim (leb_tells (held_by p c + b) (share_of p c)) [ inl w ↦ absurd (omega (arith, h, w.1)) | inr w ↦ w.0 ]

granted_step : {B : Type 0} (p : Shape) (f : Frame B) (w t c b : ℕ) → place_of f t ≡ OwnedBy w → f.failure ≡ None → grants f.pool c b ≡ true
    → frame_step p f (record { worker = w; task = t; kind = Granted }) (Grow c b) ≡ Some (goes_on (with_pool f (with_held f.pool c (held_by f.pool c + b))) t)
granted_step p f w t c b at ok g = rw (some_owned f.places t w at, ok, at, eq-eqb w w refl, g) refl

refused_step : {B : Type 0} (p : Shape) (f : Frame B) (w t c b : ℕ) → place_of f t ≡ OwnedBy w → f.failure ≡ None → grants f.pool c b ≡ false → can_spill f.pool c && not (eqb (held_by f.pool c) 0) ≡ true
    → frame_step p f (record { worker = w; task = t; kind = Refused }) (Grow c b) ≡ Some (goes_on f t)
refused_step p f w t c b at ok g s = rw (some_owned f.places t w at, ok, at, eq-eqb w w refl, g, s) refl

exhausted_step : {B : Type 0} (p : Shape) (f : Frame B) (w t c b : ℕ) → place_of f t ≡ OwnedBy w → f.failure ≡ None → grants f.pool c b ≡ false → can_spill f.pool c && not (eqb (held_by f.pool c) 0) ≡ false
    → frame_step p f (record { worker = w; task = t; kind = Failed (Exhausted b (held_by f.pool c) (share_of f.pool c)) }) (Grow c b) ≡ Some (failed f (Exhausted b (held_by f.pool c) (share_of f.pool c)))
exhausted_step p f w t c b at ok g s = rw (some_owned f.places t w at, ok, at, eq-eqb w w refl, g, s, kind_same (Failed (Exhausted b (held_by f.pool c) (share_of f.pool c)))) refl

-- a consumer that can spill and holds something can give it back
pub gives_yes : (p : Pool) (c : ℕ) → can_spill p c ≡ true → (held_by p c ≡ 0 → ⊥) → can_spill p c && not (eqb (held_by p c) 0) ≡ true
gives_yes p c s n = elim (eqb_tells (held_by p c) 0) [ inl w ↦ absurd (n w.1) | inr w ↦ rw (s, w.0) refl ]

pub gives_no : (p : Pool) (c : ℕ) → (can_spill p c ≡ false) ⊎ (held_by p c ≡ 0) → can_spill p c && not (eqb (held_by p c) 0) ≡ false
gives_no p c (inl s) = rw s refl
gives_no p c (inr z) = rw z (none (can_spill p c))
  where
    none : (b : Bool) → b && false ≡ false
    none true = refl
    none false = refl

module _ {B : Type 0} (p : Shape) (gs : List (Grouped B)) (pool pool2 : Pool) (queue : List ℕ) (room : ℕ) (ps : List Place) (pr : List Bool) (fl : Option Cause) (left w t c bytes : ℕ)
    (k : IsRunning p gs pool queue room ps pr fl left) (ok : fl ≡ None) (at : get_or (wake_all queue ps) t Done ≡ OwnedBy w) (own : has (task_at p t).consumers c ≡ true) where
  pub granted_frame : held_by pool c + bytes ≤ share_of pool c → pool2 ≡ with_held pool c (held_by pool c + bytes)
      → frame_step p (frame_of gs pool queue ps pr fl) (record { worker = w; task = t; kind = Granted }) (Grow c bytes) ≡ Some (frame_of gs pool2 queue ps (set pr t true) fl)
  unfolding progress_is with_pool
  granted_frame h e = granted_step p (frame_of gs pool queue ps pr fl) w t c bytes at ok (grants_yes pool c bytes h) ∙ ap (λ x. Some (frame_of gs x queue ps (set pr t true) fl)) (sym e)

  pub granted_running : held_by pool c + bytes ≤ share_of pool c → pool2 ≡ with_held pool c (held_by pool c + bytes) → IsRunning p gs pool2 queue room ps (set pr t true) fl left
  granted_running h e = running_going p gs gs pool pool2 queue queue room room ps pr (set pr t true) fl fl left (record { worker = w; task = t; kind = Granted }) (Grow c bytes) k own (granted_frame h e) refl (length-set pr t true) refl k.rooms (ap (λ (x : Pool). x.spillable) e)

  pub refused_frame : share_of pool c < held_by pool c + bytes → pool2 ≡ pool → can_spill pool c && not (eqb (held_by pool c) 0) ≡ true
      → frame_step p (frame_of gs pool queue ps pr fl) (record { worker = w; task = t; kind = Refused }) (Grow c bytes) ≡ Some (frame_of gs pool2 queue ps (set pr t true) fl)
  unfolding progress_is
  refused_frame h e s = refused_step p (frame_of gs pool queue ps pr fl) w t c bytes at ok (grants_no pool c bytes h) s ∙ ap (λ x. Some (frame_of gs x queue ps (set pr t true) fl)) (sym e)

  pub refused_running : share_of pool c < held_by pool c + bytes → pool2 ≡ pool → can_spill pool c && not (eqb (held_by pool c) 0) ≡ true → IsRunning p gs pool2 queue room ps (set pr t true) fl left
  refused_running h e s = running_going p gs gs pool pool2 queue queue room room ps pr (set pr t true) fl fl left (record { worker = w; task = t; kind = Refused }) (Grow c bytes) k own (refused_frame h e s) refl (length-set pr t true) refl k.rooms (ap (λ (x : Pool). x.spillable) e)

  pub exhausted_frame : share_of pool c < held_by pool c + bytes → pool2 ≡ pool → can_spill pool c && not (eqb (held_by pool c) 0) ≡ false
      → frame_step p (frame_of gs pool queue ps pr fl) (record { worker = w; task = t; kind = Failed (Exhausted bytes (held_by pool c) (share_of pool c)) }) (Grow c bytes) ≡ Some (frame_of gs pool2 queue ps pr (Some (Exhausted bytes (held_by pool c) (share_of pool c))))
  unfolding failed
  exhausted_frame h e s = exhausted_step p (frame_of gs pool queue ps pr fl) w t c bytes at ok (grants_no pool c bytes h) s ∙ ap (λ x. Some (frame_of gs x queue ps pr (Some (Exhausted bytes (held_by pool c) (share_of pool c))))) (sym e)

  pub exhausted_running : share_of pool c < held_by pool c + bytes → pool2 ≡ pool → can_spill pool c && not (eqb (held_by pool c) 0) ≡ false → IsRunning p gs pool2 queue room ps pr (Some (Exhausted bytes (held_by pool c) (share_of pool c))) left
  exhausted_running h e s = running_going p gs gs pool pool2 queue queue room room ps pr pr fl (Some (Exhausted bytes (held_by pool c) (share_of pool c))) left (record { worker = w; task = t; kind = Failed (Exhausted bytes (held_by pool c) (share_of pool c)) }) (Grow c bytes) k own (exhausted_frame h e s) refl refl refl k.rooms (ap (λ (x : Pool). x.spillable) e)
