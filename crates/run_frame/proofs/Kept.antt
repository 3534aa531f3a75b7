-- What is kept of a run after a step.
use Rattle.std.proofs.Common.{ℕ, zero, suc, ◌+◌, ◌<◌, ◌≡◌, ◌≢◌, inl, inr, refl, sym, ap, ◌∙◌, subst, eqb, List, [], ◌∷◌, length, get_or, set, map, Bool, true, false, not, Option, Some, arith, get_or-set_same}
use Rattle.std.proofs.lemmas.Bool.Decides.{eqb_tells}
use Rattle.std.proofs.Math.ListN.{length-set}
use Rattle.run_journal.specs.declared.cause.Cause.{Cause}
use Rattle.run_journal.specs.declared.entry.Entry.{Entry}
use Rattle.gate_channels.specs.Group.{Grouped}
use Rattle.task_shape.proofs.Numbers.{same_or_not}
use Rattle.fair_pool.specs.Share.{Pool}
use Rattle.core_frame.specs.Frame.{unfinished, all_done}
use Rattle.core_frame.specs.declared.place.Place.{Place}
use Rattle.core_frame.specs.declared.place.Place.TheVariants.{OwnedBy, Done}
use Rattle.task_shape.specs.Shape.{Shape}
use Rattle.core_frame.specs.Step.{Need, wake_all, frame_step}
use Rattle.core_frame.specs.Good.{IsOwn}
use Rattle.core_frame.proofs.Lists.{read_other}
use Rattle.core_frame.proofs.Moves.{not_done_inside}
use Rattle.core_frame.proofs.Places.{length_wake_all}
use Rattle.core_frame.proofs.Replays.{lawful_step}
use Rattle.run_frame.specs.Running.{IsRunning, AllAre, OwnersStand, count_unfinished, frame_of}
use Rattle.run_frame.proofs.Stepped.{Stepped, going, is_end, step_places}

-- ------------------------------------------------------------ counts of unfinished tasks
pub count_same : (xs ys : List Place) → length xs ≡ length ys → ((u : ℕ) → unfinished (get_or ys u Done) ≡ unfinished (get_or xs u Done)) → count_unfinished ys ≡ count_unfinished xs
count_same [] [] l e = refl
count_same [] (y ∷ ys) l e = absurd (omega arith)
count_same (x ∷ xs) [] l e = absurd (omega arith)
count_same (x ∷ xs) (y ∷ ys) l e = rw (e 0) (let r : count_unfinished ys ≡ count_unfinished xs = count_same xs ys (omega arith) (λ u. e (suc u)) in omega arith)

-- one of them ends
pub count_less : (xs ys : List Place) (t : ℕ) → length xs ≡ length ys → unfinished (get_or xs t Done) ≡ true → unfinished (get_or ys t Done) ≡ false → ((u : ℕ) → t ≢ u → unfinished (get_or ys u Done) ≡ unfinished (get_or xs u Done)) → count_unfinished xs ≡ suc (count_unfinished ys)
count_less [] ys t l a b e = cc
count_less (x ∷ xs) [] t l a b e = absurd (omega arith)
count_less (x ∷ xs) (y ∷ ys) zero l a b e = rw (a, b) (let r : count_unfinished ys ≡ count_unfinished xs = count_same xs ys (omega arith) (λ u. e (suc u) (λ z. (omega (arith, z)))) in omega arith)
count_less (x ∷ xs) (y ∷ ys) (suc t) l a b e = rw (e 0 (λ z. (omega (arith, z)))) (let r : count_unfinished xs ≡ suc (count_unfinished ys) = count_less xs ys t (omega arith) a b (λ u n. e (suc u) (λ z. n (omega (arith, z)))) in omega arith)

pub none_left : (ps : List Place) → all_done ps ≡ eqb (count_unfinished ps) 0
none_left [] = refl
none_left (q ∷ ps) = go (unfinished q) refl (none_left ps)
  where
    go : (b : Bool) → unfinished q ≡ b → all_done ps ≡ eqb (count_unfinished ps) 0 → all_done (q ∷ ps) ≡ eqb (count_unfinished (q ∷ ps)) 0
    go true e r = rw e (elim (eqb_tells (1 + count_unfinished ps) 0) [ inl w ↦ absurd (omega (arith, w.1)) | inr w ↦ sym w.0 ])
    go false e r = rw e (r ∙ ap (λ n. eqb n 0) (let z : count_unfinished ps ≡ 0 + count_unfinished ps = omega arith in z))

-- ------------------------------------------------------------ owners by the kept places
pub owners_going : (queue queue2 : List ℕ) (ps : List Place) → OwnersStand queue ps → ((u w : ℕ) → get_or (wake_all queue ps) u Done ≡ OwnedBy w → get_or (wake_all queue2 ps) u Done ≡ OwnedBy w) → OwnersStand queue2 ps
owners_going queue queue2 ps o h u w e = h u w (o u w e)

pub owners_set : (queue queue2 : List ℕ) (ps : List Place) (t : ℕ) (q : Place) → t < length ps → OwnersStand queue ps
    → ((u w : ℕ) → t ≢ u → get_or (wake_all queue ps) u Done ≡ OwnedBy w → get_or (wake_all queue2 (set ps t q)) u Done ≡ OwnedBy w)
    → ((w : ℕ) → q ≡ OwnedBy w → get_or (wake_all queue2 (set ps t q)) t Done ≡ OwnedBy w) → OwnersStand queue2 (set ps t q)
owners_set queue queue2 ps t q i o h own u w e = elim (same_or_not t u) [
  | inl s ↦ subst (λ j. get_or (wake_all queue2 (set ps t q)) j Done ≡ OwnedBy w) s
      (own w (sym (get_or-set_same ps t q Done i) ∙ (ap (λ j. get_or (set ps t q) j Done) s ∙ e)))
  | inr n ↦ h u w n (o u w (sym (read_other ps t u q Done n) ∙ e))
]

-- ------------------------------------------------------------ what a step leaves is running again
module _ {B : Type 0} (p : Shape) (gs gs2 : List (Grouped B)) (pool pool2 : Pool) (queue queue2 : List ℕ) (room room2 : ℕ) (ps : List Place) (pr pr2 : List Bool) (fl fl2 : Option Cause) (left : ℕ) (e : Entry) (n : Need B)
    (k : IsRunning p gs pool queue room ps pr fl left) (own : IsOwn p e.task n) where
  stepped : (ps2 : List Place) → frame_step p (frame_of gs pool queue ps pr fl) e n ≡ Some (frame_of gs2 pool2 queue2 ps2 pr2 fl2) → Stepped (frame_of gs pool queue ps pr fl) (frame_of gs2 pool2 queue2 ps2 pr2 fl2) e.task e.kind
  stepped ps2 step = step_places p (frame_of gs pool queue ps pr fl) (frame_of gs2 pool2 queue2 ps2 pr2 fl2) e n k.plan.plan k.lawful own step

  task_inside : (ps2 : List Place) → frame_step p (frame_of gs pool queue ps pr fl) e n ≡ Some (frame_of gs2 pool2 queue2 ps2 pr2 fl2) → e.task < length ps
  task_inside ps2 step =
      let s : Stepped (frame_of gs pool queue ps pr fl) (frame_of gs2 pool2 queue2 ps2 pr2 fl2) e.task e.kind = stepped ps2 step in
      let i : e.task < length (wake_all queue ps) = not_done_inside (frame_of gs pool queue ps pr fl) e.task (λ z. (let y : unfinished Done ≡ true = ap unfinished (sym z) ∙ s.before in cc)) in
      let l : length (wake_all queue ps) ≡ length ps = length_wake_all queue ps in omega arith

  -- whatever it does with the places
  pub running_with : (ps2 : List Place) (left2 : ℕ) → frame_step p (frame_of gs pool queue ps pr fl) e n ≡ Some (frame_of gs2 pool2 queue2 ps2 pr2 fl2)
      → length pr2 ≡ length pr → length ps2 ≡ length ps → room2 ≡ room → AllAre (length ps) (map (λ y. y.room) gs2) → pool2.spillable ≡ pool.spillable
      → OwnersStand queue2 ps2 → left2 ≡ count_unfinished (wake_all queue2 ps2) → IsRunning p gs2 pool2 queue2 room2 ps2 pr2 fl2 left2
  running_with ps2 left2 step lp ls lr all sp os ls2 = record {
    plan = k.plan;
    lawful = lawful_step p (frame_of gs pool queue ps pr fl) (frame_of gs2 pool2 queue2 ps2 pr2 fl2) e n k.plan.plan k.lawful own step;
    long = lp ∙ (k.long ∙ sym ls);
    queue_room = lr ∙ (k.queue_room ∙ sym ls);
    rooms = subst (λ m. AllAre m (map (λ (y : Grouped B). y.room) gs2)) (sym ls) all;
    spillable = sp ∙ k.spillable;
    owned = os;
    unended = ls2;
  }

  -- the task is where it was
  pub running_going : frame_step p (frame_of gs pool queue ps pr fl) e n ≡ Some (frame_of gs2 pool2 queue2 ps pr2 fl2) → going e.kind ≡ true
      → length pr2 ≡ length pr → room2 ≡ room → AllAre (length ps) (map (λ y. y.room) gs2) → pool2.spillable ≡ pool.spillable → IsRunning p gs2 pool2 queue2 room2 ps pr2 fl2 left
  running_going step g lp lr all sp =
      let s : Stepped (frame_of gs pool queue ps pr fl) (frame_of gs2 pool2 queue2 ps pr2 fl2) e.task e.kind = stepped ps step in
      running_with ps left step lp refl lr all sp
      (owners_going queue queue2 ps k.owned (λ u w o. owner_stays s u w o))
      (k.unended ∙ sym (count_same (wake_all queue ps) (wake_all queue2 ps) (length_wake_all queue ps ∙ sym (length_wake_all queue2 ps)) (λ u. unfinished_stays s u)))
    where
      owner_stays : Stepped (frame_of gs pool queue ps pr fl) (frame_of gs2 pool2 queue2 ps pr2 fl2) e.task e.kind → (u w : ℕ) → get_or (wake_all queue ps) u Done ≡ OwnedBy w → get_or (wake_all queue2 ps) u Done ≡ OwnedBy w
      owner_stays s u w o = elim (same_or_not e.task u) [
        | inl a ↦ subst (λ j. get_or (wake_all queue2 ps) j Done ≡ OwnedBy w) a (s.stays g ∙ (ap (λ j. get_or (wake_all queue ps) j Done) a ∙ o))
        | inr m ↦ s.owner u w m o
      ]

      unfinished_stays : Stepped (frame_of gs pool queue ps pr fl) (frame_of gs2 pool2 queue2 ps pr2 fl2) e.task e.kind → (u : ℕ) → unfinished (get_or (wake_all queue2 ps) u Done) ≡ unfinished (get_or (wake_all queue ps) u Done)
      unfinished_stays s u = elim (same_or_not e.task u) [
        | inl a ↦ subst (λ j. unfinished (get_or (wake_all queue2 ps) j Done) ≡ unfinished (get_or (wake_all queue ps) j Done)) a (ap unfinished (s.stays g))
        | inr m ↦ s.others u m
      ]

  -- the task is put elsewhere, and has not ended
  pub running_put : (q : Place) → frame_step p (frame_of gs pool queue ps pr fl) e n ≡ Some (frame_of gs2 pool2 queue2 (set ps e.task q) pr2 fl2) → is_end e.kind ≡ false
      → ((w : ℕ) → q ≡ OwnedBy w → get_or (wake_all queue2 (set ps e.task q)) e.task Done ≡ OwnedBy w)
      → length pr2 ≡ length pr → room2 ≡ room → AllAre (length ps) (map (λ y. y.room) gs2) → pool2.spillable ≡ pool.spillable → IsRunning p gs2 pool2 queue2 room2 (set ps e.task q) pr2 fl2 left
  running_put q step g there lp lr all sp =
      let s : Stepped (frame_of gs pool queue ps pr fl) (frame_of gs2 pool2 queue2 (set ps e.task q) pr2 fl2) e.task e.kind = stepped (set ps e.task q) step in
      running_with (set ps e.task q) left step lp (length-set ps e.task q) lr all sp
      (owners_set queue queue2 ps e.task q (task_inside (set ps e.task q) step) k.owned s.owner there)
      (k.unended ∙ sym (count_same (wake_all queue ps) (wake_all queue2 (set ps e.task q)) (length_wake_all queue ps ∙ (sym (length-set ps e.task q) ∙ sym (length_wake_all queue2 (set ps e.task q)))) (λ u. unfinished_stays s u)))
    where
      unfinished_stays : Stepped (frame_of gs pool queue ps pr fl) (frame_of gs2 pool2 queue2 (set ps e.task q) pr2 fl2) e.task e.kind → (u : ℕ) → unfinished (get_or (wake_all queue2 (set ps e.task q)) u Done) ≡ unfinished (get_or (wake_all queue ps) u Done)
      unfinished_stays s u = elim (same_or_not e.task u) [
        | inl a ↦ subst (λ j. unfinished (get_or (wake_all queue2 (set ps e.task q)) j Done) ≡ unfinished (get_or (wake_all queue ps) j Done)) a (s.after ∙ (ap not g ∙ sym s.before))
        | inr m ↦ s.others u m
      ]

  -- the task ends
  pub running_ended : frame_step p (frame_of gs pool queue ps pr fl) e n ≡ Some (frame_of gs2 pool2 queue2 (set ps e.task Done) pr2 fl2) → is_end e.kind ≡ true
      → length pr2 ≡ length pr → room2 ≡ room → AllAre (length ps) (map (λ y. y.room) gs2) → pool2.spillable ≡ pool.spillable → (left2 : ℕ) → left ≡ suc left2 → IsRunning p gs2 pool2 queue2 room2 (set ps e.task Done) pr2 fl2 left2
  running_ended step g lp lr all sp left2 less =
      let s : Stepped (frame_of gs pool queue ps pr fl) (frame_of gs2 pool2 queue2 (set ps e.task Done) pr2 fl2) e.task e.kind = stepped (set ps e.task Done) step in
      let c : count_unfinished (wake_all queue ps) ≡ suc (count_unfinished (wake_all queue2 (set ps e.task Done))) =
      count_less (wake_all queue ps) (wake_all queue2 (set ps e.task Done)) e.task (length_wake_all queue ps ∙ (sym (length-set ps e.task Done) ∙ sym (length_wake_all queue2 (set ps e.task Done)))) s.before (s.after ∙ ap not g) s.others in
      running_with (set ps e.task Done) left2 step lp (length-set ps e.task Done) lr all sp
      (owners_set queue queue2 ps e.task Done (task_inside (set ps e.task Done) step) k.owned s.owner (λ w z. cc))
      (let u : left ≡ count_unfinished (wake_all queue ps) = k.unended in omega arith)

-- while some task has not ended the count is above 0
pub some_unended : (ps : List Place) (t : ℕ) → unfinished (get_or ps t Done) ≡ true → 0 < count_unfinished ps
some_unended [] t e = cc
some_unended (q ∷ ps) zero e = rw e (omega arith)
some_unended (q ∷ ps) (suc t) e = let r : 0 < count_unfinished ps = some_unended ps t e in omega arith
