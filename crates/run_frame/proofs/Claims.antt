-- A claim is a step of the frame.
use Rattle.std.proofs.Common.{ℕ, zero, suc, ◌+◌, ◌<◌, ◌≤◌, ◌≡◌, ◌≢◌, inl, inr, refl, sym, ap, ◌∙◌, List, [], ◌∷◌, ◌++◌, length, get_or, set, take, Bool, true, false, ◌&&◌, not, Option, Some, None, map, arith, get_or-set_same}
use Rattle.std.proofs.lemmas.Bool.{eq-eqb}
use Rattle.std.proofs.lemmas.Bool.Decides.{eqb_tells}
use Rattle.std.specs.List.{remove}
use Rattle.gate_channels.specs.Gate.{Gate}
use Rattle.core_frame.specs.Step.{wake_all, Need, claimed, frame_step, move_to, progress_is, failed}
use Rattle.fair_pool.specs.Share.{Pool}
use Rattle.task_shape.specs.Shape.{Shape}
use Rattle.core_frame.specs.Frame.{Frame, owns, place_of, all_done, unfinished}
use Rattle.core_frame.specs.declared.place.Place.{Place}
use Rattle.core_frame.specs.declared.place.Place.TheVariants.{Woken, OwnedBy, Done}
use Rattle.run_journal.specs.declared.entry.EntryKind.TheVariants.{Claimed, Failed}
use Rattle.run_journal.specs.declared.cause.Cause.TheVariants.{NoMemory}
use Rattle.task_shape.specs.Numbers.{one, count, without, IsDistinctBelow}
use Rattle.core_frame.specs.Good.{IsSound}
use Rattle.task_shape.proofs.Numbers.{one_same, one_no, one_yes}
use Rattle.core_frame.proofs.Places.{place_cases, length_wake_all}
use Rattle.core_frame.proofs.Sound.{sound}
use Rattle.std.proofs.Math.ListN.{length-set}
use Rattle.run_journal.specs.declared.cause.Cause.{Cause}
use Rattle.core_frame.specs.Step.{Scan}
use Rattle.gate_channels.specs.Group.{Grouped}
use Rattle.run_frame.specs.Running.{IsRunning, frame_of}
use Rattle.run_frame.proofs.Kept.{running_going, running_put}

-- a task at a place stands once more in the list than before the place
pub count_at : (xs : List ℕ) (i : ℕ) → i < length xs → count (get_or xs i 0) (take i xs) + 1 ≤ count (get_or xs i 0) xs
count_at [] i h = absurd (omega arith)
count_at (x ∷ xs) zero h = let a : one x x ≡ 1 = one_same x in omega arith
count_at (x ∷ xs) (suc i) h = let r : count (get_or xs i 0) (take i xs) + 1 ≤ count (get_or xs i 0) xs = count_at xs i (omega arith) in omega arith

pub without_remove : (xs : List ℕ) (i : ℕ) → i < length xs → count (get_or xs i 0) xs ≤ 1 → without (get_or xs i 0) xs ≡ remove xs i
without_remove [] i h k = absurd (omega arith)
without_remove (x ∷ xs) zero h k = rw (eq-eqb x x refl) refl
without_remove (x ∷ xs) (suc i) h k = elim (eqb_tells x (get_or xs i 0)) [
  | inl w ↦ absurd (let a : count (get_or xs i 0) (take i xs) + 1 ≤ count (get_or xs i 0) xs = count_at xs i (omega arith) in
      let o : one x (get_or xs i 0) ≡ 1 = one_yes x (get_or xs i 0) w.1 in omega arith)
  | inr w ↦ rw w.0 (ap (λ (ys : List ℕ). x ∷ ys) (without_remove xs i (omega arith) (let o : one x (get_or xs i 0) ≡ 0 = one_no x (get_or xs i 0) w.1 in omega arith)))
]

-- who stands in the queue is woken
pub queue_place : {B : Type 0} (p : Shape) (f : Frame B) (i : ℕ) → IsSound p f → i < length f.queue → place_of f (get_or f.queue i 0) ≡ Woken
queue_place p f i s h = elim (place_cases (place_of f (get_or f.queue i 0)) Woken) [
  | inl e ↦ e
  | inr n ↦ absurd (let a : count (get_or f.queue i 0) (take i f.queue) + 1 ≤ count (get_or f.queue i 0) f.queue = count_at f.queue i h in
      let z : count (get_or f.queue i 0) f.queue ≡ 0 = s.queue_only (get_or f.queue i 0) n in omega arith)
]

pub place_inside : (ps : List Place) (t : ℕ) → get_or ps t Done ≡ Woken → t < length ps
place_inside [] t e = cc
place_inside (q ∷ ps) zero e = omega arith
place_inside (q ∷ ps) (suc t) e = let h : t < length ps = place_inside ps t e in omega arith

some_left : (ps : List Place) (t : ℕ) → get_or ps t Done ≡ Woken → all_done ps ≡ false
some_left [] t e = cc
some_left (q ∷ ps) zero e = rw e refl
some_left (q ∷ ps) (suc t) e = rw (some_left ps t e) (and_false (not (unfinished q)))
  where
    and_false : (b : Bool) → b && false ≡ false
    and_false true = refl
    and_false false = refl

pub claimed_step : {B : Type 0} (p : Shape) (f : Frame B) (t w : ℕ) (n : Need B) → place_of f t ≡ Woken → owns w f.places ≡ false → f.failure ≡ None
    → frame_step p f (record { worker = w; task = t; kind = Claimed }) n ≡ Some (claimed f t w)
claimed_step p f t w n at free ok = rw (some_left f.places t at, ok, at, free) refl

pub claimed_frame : {B : Type 0} (f : Frame B) (t w : ℕ) (queue : List ℕ) → queue ≡ without t f.queue
    → ◌≡◌ {A = Frame B} (claimed f t w) (record { gates = f.gates; pool = f.pool; queue = queue; places = set f.places t (OwnedBy w); progress = set f.progress t false; failure = f.failure })
unfolding move_to progress_is
claimed_frame f t w queue e = ap (λ q. record { gates = f.gates; pool = f.pool; queue = q; places = set f.places t (OwnedBy w); progress = set f.progress t false; failure = f.failure }) (sym e)

-- what a claim leaves is the one next frame
pub claim_answer : {B : Type 0} (p : Shape) (f : Frame B) (i w task : ℕ) (queue : List ℕ) (n : Need B) → IsSound p f → i < length f.queue → owns w f.places ≡ false → f.failure ≡ None
    → task ≡ get_or f.queue i 0 → queue ≡ remove f.queue i
    → frame_step p f (record { worker = w; task = task; kind = Claimed }) n ≡ Some (record { gates = f.gates; pool = f.pool; queue = queue; places = set f.places task (OwnedBy w); progress = set f.progress task false; failure = f.failure })
claim_answer {B} p f i w task queue n s h free ok et eq = rw et (claimed_step p f (get_or f.queue i 0) w n at free ok ∙ ap Some (claimed_frame f (get_or f.queue i 0) w queue
    (eq ∙ sym (without_remove f.queue i h once))))
  where
    at : place_of f (get_or f.queue i 0) ≡ Woken
    at = queue_place p f i s h

    once : count (get_or f.queue i 0) f.queue ≤ 1
    once = let e : count (get_or f.queue i 0) f.queue ≡ 1 = s.queue (get_or f.queue i 0) at in omega arith

-- ------------------------------------------------------------ places are kept without the wakings
pub set_twice : {A : Type 0} (xs : List A) (i : ℕ) (a b : A) → set (set xs i a) i b ≡ set xs i b
set_twice [] i a b = refl
set_twice (x ∷ xs) zero a b = refl
set_twice (x ∷ xs) (suc i) a b = ap (λ ys. x ∷ ys) (set_twice xs i a b)

pub set_swap : {A : Type 0} (xs : List A) (i j : ℕ) (a b : A) → i ≢ j → set (set xs i a) j b ≡ set (set xs j b) i a
set_swap [] i j a b n = refl
set_swap (x ∷ xs) zero zero a b n = absurd (n refl)
set_swap (x ∷ xs) zero (suc j) a b n = refl
set_swap (x ∷ xs) (suc i) zero a b n = refl
set_swap (x ∷ xs) (suc i) (suc j) a b n = ap (λ ys. x ∷ ys) (set_swap xs i j a b (λ e. n (ap suc e)))

pub wake_all_append : (xs ys : List ℕ) (ps : List Place) → wake_all (xs ++ ys) ps ≡ wake_all ys (wake_all xs ps)
wake_all_append [] ys ps = refl
wake_all_append (x ∷ xs) ys ps = wake_all_append xs ys (set ps x Woken)

pub wake_all_set : (xs : List ℕ) (ps : List Place) (t : ℕ) (q : Place) → count t xs ≡ 0 → wake_all xs (set ps t q) ≡ set (wake_all xs ps) t q
wake_all_set [] ps t q z = refl
wake_all_set (x ∷ xs) ps t q z = elim (eqb_tells x t) [
  | inl w ↦ absurd (let o : one x t ≡ 1 = one_yes x t w.1 in omega arith)
  | inr w ↦ ap (λ z. wake_all xs z) (set_swap ps t x q Woken (λ e. w.1 (sym e))) ∙ wake_all_set xs (set ps x Woken) t q (omega arith)
]

-- a claim takes one task out of the queue
pub wake_all_without : (xs : List ℕ) (ps : List Place) (t : ℕ) (q : Place) → count t xs ≡ 1 → wake_all (without t xs) (set ps t q) ≡ set (wake_all xs ps) t q
wake_all_without [] ps t q z = absurd (omega arith)
wake_all_without (x ∷ xs) ps t q z = elim (eqb_tells x t) [
  | inl w ↦ (let o : one x t ≡ 1 = one_yes x t w.1 in
      let y : count t xs ≡ 0 = omega arith in
      rw w.0 (wake_all_set xs ps t q y ∙ (sym (set_twice (wake_all xs ps) t Woken q) ∙ (ap (λ z. set z t q) (sym (wake_all_set xs ps t Woken y)) ∙ ap (λ j. set (wake_all xs (set ps j Woken)) t q) (sym w.1)))))
  | inr w ↦ (let o : one x t ≡ 0 = one_no x t w.1 in
      rw w.0 (ap (λ z. wake_all (without t xs) z) (set_swap ps t x q Woken (λ e. w.1 (sym e))) ∙ wake_all_without xs (set ps x Woken) t q (omega arith)))
]

-- the same where the kept places lack the wakings
pub claim_lazy : {B : Type 0} (p : Shape) (gates : List (Gate B)) (pool : Pool) (queue queue2 : List ℕ) (ps : List Place) (pr : List Bool) (fl : Option Cause) (i w task : ℕ) (n : Need B)
    → IsSound p (record { gates = gates; pool = pool; queue = queue; places = wake_all queue ps; progress = pr; failure = fl }) → fl ≡ None → i < length queue → owns w (wake_all queue ps) ≡ false
    → task ≡ get_or queue i 0 → queue2 ≡ remove queue i
    → frame_step p (record { gates = gates; pool = pool; queue = queue; places = wake_all queue ps; progress = pr; failure = fl }) (record { worker = w; task = task; kind = Claimed }) n
    ≡ Some (record { gates = gates; pool = pool; queue = queue2; places = wake_all queue2 (set ps task (OwnedBy w)); progress = set pr task false; failure = fl })
claim_lazy {B} p gates pool queue queue2 ps pr fl i w task n s ok h free et eq =
    claim_answer p (record { gates = gates; pool = pool; queue = queue; places = wake_all queue ps; progress = pr; failure = fl }) i w task queue2 n s h free ok et eq
    ∙ ap (λ q. Some (record { gates = gates; pool = pool; queue = queue2; places = q; progress = set pr task false; failure = fl })) (sym same)
  where
    at : get_or (wake_all queue ps) (get_or queue i 0) Done ≡ Woken
    at = queue_place p (record { gates = gates; pool = pool; queue = queue; places = wake_all queue ps; progress = pr; failure = fl }) i s h

    once : count (get_or queue i 0) queue ≡ 1
    once = s.queue (get_or queue i 0) at

    same : wake_all queue2 (set ps task (OwnedBy w)) ≡ set (wake_all queue ps) task (OwnedBy w)
    same = rw et (ap (λ q. wake_all q (set ps (get_or queue i 0) (OwnedBy w))) (eq ∙ sym (without_remove queue i h (let e : count (get_or queue i 0) queue ≡ 1 = once in omega arith)))
        ∙ wake_all_without queue ps (get_or queue i 0) (OwnedBy w) once)

-- where the claimed task is, by the kept places
pub claim_places : (queue queue2 : List ℕ) (ps : List Place) (i w task : ℕ) → i < length queue → count (get_or queue i 0) queue ≡ 1 → task ≡ get_or queue i 0 → queue2 ≡ remove queue i
    → wake_all queue2 (set ps task (OwnedBy w)) ≡ set (wake_all queue ps) task (OwnedBy w)
claim_places queue queue2 ps i w task h once et eq =
    rw et (ap (λ q. wake_all q (set ps (get_or queue i 0) (OwnedBy w))) (eq ∙ sym (without_remove queue i h (let e : count (get_or queue i 0) queue ≡ 1 = once in omega arith)))
    ∙ wake_all_without queue ps (get_or queue i 0) (OwnedBy w) once)

pub failed_claim_step : {B : Type 0} (p : Shape) (f : Frame B) (t w : ℕ) (n : Need B) → place_of f t ≡ Woken → owns w f.places ≡ false → f.failure ≡ None
    → frame_step p f (record { worker = w; task = t; kind = Failed NoMemory }) n ≡ Some (failed f NoMemory)
failed_claim_step p f t w n at free ok = rw (some_left f.places t at, ok, at, free) refl

-- ------------------------------------------------------------ a claim by a worker that owns nothing

module _ {B : Type 0} (p : Shape) (gs : List (Grouped B)) (pool : Pool) (queue : List ℕ) (room : ℕ) (ps : List Place) (pr : List Bool) (fl : Option Cause) (left i w task : ℕ)
    (k : IsRunning p gs pool queue room ps pr fl left) (ok : fl ≡ None) (h : i < length queue) (free : owns w (wake_all queue ps) ≡ false) (et : task ≡ get_or queue i 0) where
  claims_sound : IsSound p (frame_of gs pool queue ps pr fl)
  claims_sound = sound p (frame_of gs pool queue ps pr fl) k.lawful

  claims_at : get_or (wake_all queue ps) (get_or queue i 0) Done ≡ Woken
  claims_at = queue_place p (frame_of gs pool queue ps pr fl) i claims_sound h

  pub claims_woken : get_or (wake_all queue ps) task Done ≡ Woken
  claims_woken = rw et claims_at

  pub claims_inside : task < length ps
  claims_inside =
      let inside : get_or queue i 0 < length (wake_all queue ps) = place_inside (wake_all queue ps) (get_or queue i 0) claims_at in
      let long : length (wake_all queue ps) ≡ length ps = length_wake_all queue ps in
      omega arith

  pub claims_step : (queue2 : List ℕ) → queue2 ≡ remove queue i → (n : Need B) → frame_step p (frame_of gs pool queue ps pr fl) (record { worker = w; task = task; kind = Claimed }) n ≡ Some (frame_of gs pool queue2 (set ps task (OwnedBy w)) (set pr task false) fl)
  claims_step queue2 eq n = claim_lazy p (map (λ (g : Grouped B). g.gate) gs) pool queue queue2 ps pr fl i w task n claims_sound ok h free et eq

  pub claims_running : (queue2 : List ℕ) → queue2 ≡ remove queue i → (room2 : ℕ) → room2 ≡ room → IsRunning p gs pool queue2 room2 (set ps task (OwnedBy w)) (set pr task false) fl left
  claims_running queue2 eq room2 e =
      running_put p gs gs pool pool queue queue2 room room2 ps pr (set pr task false) fl fl left (record { worker = w; task = task; kind = Claimed }) Scan k tt (OwnedBy w) (claims_step queue2 eq Scan) refl
      (λ v z. ap (λ q. get_or q task Done) (claim_places queue queue2 ps i w task h (claims_sound.queue (get_or queue i 0) claims_at) et eq)
      ∙ (get_or-set_same (wake_all queue ps) task (OwnedBy w) Done (let l : length (wake_all queue ps) ≡ length ps = length_wake_all queue ps in let y : task < length ps = claims_inside in omega arith) ∙ z))
      (length-set pr task false) e k.rooms refl

  pub claim_fails : (queue2 : List ℕ) → queue2 ≡ queue → (n : Need B) → frame_step p (frame_of gs pool queue ps pr fl) (record { worker = w; task = task; kind = Failed NoMemory }) n ≡ Some (frame_of gs pool queue2 ps pr (Some NoMemory))
  unfolding failed
  claim_fails queue2 eq n = failed_claim_step p (frame_of gs pool queue ps pr fl) task w n (rw et claims_at) free ok ∙ ap (λ q. Some (frame_of gs pool q ps pr (Some NoMemory))) (sym eq)

  pub claim_fails_running : (queue2 : List ℕ) → queue2 ≡ queue → (room2 : ℕ) → room2 ≡ room → IsRunning p gs pool queue2 room2 ps pr (Some NoMemory) left
  claim_fails_running queue2 eq room2 e = running_going p gs gs pool pool queue queue2 room room2 ps pr pr fl (Some NoMemory) left (record { worker = w; task = task; kind = Failed NoMemory }) Scan k tt (claim_fails queue2 eq Scan) refl refl e k.rooms refl

-- the queue holds each task once, and has room for it
pub queue_distinct : {B : Type 0} (p : Shape) (gs : List (Grouped B)) (pool : Pool) (queue : List ℕ) (room : ℕ) (ps : List Place) (pr : List Bool) (fl : Option Cause) (left : ℕ) → IsRunning p gs pool queue room ps pr fl left → IsDistinctBelow queue room
queue_distinct {B} p gs pool queue room ps pr fl left k = record { once = once; below = below }
  where
    s : IsSound p (frame_of gs pool queue ps pr fl)
    s = sound p (frame_of gs pool queue ps pr fl) k.lawful

    once : (t : ℕ) → count t queue ≤ 1
    once t = elim (place_cases (get_or (wake_all queue ps) t Done) Woken) [
      | inl e ↦ (let o : count t queue ≡ 1 = s.queue t e in omega arith)
      | inr n ↦ (let o : count t queue ≡ 0 = s.queue_only t n in omega arith)
    ]

    below : (t : ℕ) → 0 < count t queue → t < room
    below t h = elim (place_cases (get_or (wake_all queue ps) t Done) Woken) [
      | inl e ↦ (let i : t < length (wake_all queue ps) = place_inside (wake_all queue ps) t e in
          let l : length (wake_all queue ps) ≡ length ps = length_wake_all queue ps in
          let r : room ≡ length ps = k.queue_room in omega arith)
      | inr n ↦ absurd (let o : count t queue ≡ 0 = s.queue_only t n in omega arith)
    ]
