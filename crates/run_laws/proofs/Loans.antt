-- A loan by the acts is ownership by place.
use Rattle.std.proofs.Common.{ℕ, zero, suc, ◌≡◌, ◌≢◌, ◌⊎◌, inl, inr, refl, sym, ap, ◌∙◌, subst, cond, List, [], ◌∷◌, ◌++◌, map, length, get_or, set, Bool, true, false, ◌&&◌, ◌||◌, not, Option, Some, None, is_some, eqb-true, eq-eqb, ne_eqb, append-nil, append_assoc, IfSome}
use Rattle.std.proofs.lemmas.Bool.{or_parts, or_right}
use Rattle.std.proofs.lemmas.List.Elements.{filter-append}
use Rattle.run_journal.specs.declared.entry.Entry.{Entry}
use Rattle.run_journal.specs.declared.entry.EntryKind.{EntryKind}
use Rattle.run_journal.specs.declared.cause.Cause.TheVariants.{NoMemory}
use Rattle.run_journal.specs.declared.entry.EntryKind.TheVariants.{Claimed, Scanned, Received, Empty, Ended, Sent, Held, Dropped, Granted, Refused, Freed, Wrote, Yielded, Finished, Failed}
use Rattle.run_journal.specs.SameKind.{same_kind}
use Rattle.run_journal.proofs.SameKind
use Rattle.gate_channels.specs.Gate.{Gate, Moved, sent, received, ended, dropped}
use Rattle.task_shape.proofs.Numbers.{same_or_not}
use Rattle.task_shape.specs.Shape.{Shape, IsShape, task_at}
use Rattle.core_frame.specs.declared.place.Place.{Place}
use Rattle.core_frame.specs.declared.place.Place.TheVariants.{Woken, OwnedBy, AtGate, AtChannel, Done}
use Rattle.core_frame.specs.Frame.{Frame, place_of, gate_of, all_done, is_woken, is_owned, owns, opening}
use Rattle.core_frame.specs.Lawful.{IsLawful}
use Rattle.core_frame.specs.Good.{IsOwn, AreOwn}
use Rattle.core_frame.proofs.Replays.{lawful_step}
use Rattle.core_frame.proofs.Sound.{lawful_opening}
use Rattle.run_laws.specs.Others.{entries_of}
use Rattle.core_frame.specs.Step.{Need, Scan, Recv, Send, Grow, Free, Writes, Finish, Fail, wake_all, wake, put_gate, moved, with_pool, move_to, progress_is, failed, goes_on, drops, ends_in, ends, finished, made_send, made_send_to, made_recv, made_grow, made, may_fail, is_yielded, claimed, may_claim, owner_step, claim_step, is_over, frame_step, next_frame, frame_replay}
use Rattle.turn_cell.specs.declared.act.Act.{Act}
use Rattle.turn_cell.specs.declared.act.Act.TheVariants.{Made, Returned}
use Rattle.turn_cell.specs.Acts.{worker_of, acts_by}
use Rattle.turn_cell.specs.Loans.{keeps_task, lent_by, last_loan, loan_of}
use Rattle.turn_cell.proofs.Loans.{loan_after}
use Rattle.run_laws.specs.Loans.{is_failed, gives_up, last_gives_up, gave_up, AreLoans}
use Rattle.core_frame.proofs.Lookups.{within_if, tabulate_at}
use Rattle.run_laws.proofs.Others.{Has, has_lawful, HasApart, step_has, moved_has, pool_has, ending_has, clear_at, sent_clear, received_clear}

-- ------------------------------------------------------------ the last act of a worker
last_gave : (xs : List Act) (a : Act) → last_gives_up (xs ++ a ∷ []) ≡ gives_up a
last_gave [] a = refl
last_gave (x ∷ []) a = refl
last_gave (x ∷ (y ∷ xs)) a = last_gave (y ∷ xs) a

acts_same : (w : ℕ) (acts : List Act) (a : Act) → worker_of a ≢ w → acts_by w (acts ++ a ∷ []) ≡ acts_by w acts
acts_same w acts a n = filter-append _ acts (a ∷ []) ∙ (ap (λ b. acts_by w acts ++ cond b (a ∷ []) []) (ne_eqb (worker_of a) w n) ∙ append-nil (acts_by w acts))

acts_more : (w : ℕ) (acts : List Act) (a : Act) → worker_of a ≡ w → acts_by w (acts ++ a ∷ []) ≡ acts_by w acts ++ a ∷ []
acts_more w acts a e = filter-append _ acts (a ∷ []) ∙ ap (λ b. acts_by w acts ++ cond b (a ∷ []) []) (eq-eqb (worker_of a) w e)

gave_new : (w : ℕ) (acts : List Act) (a : Act) → worker_of a ≡ w → gave_up w (acts ++ a ∷ []) ≡ gives_up a
gave_new w acts a e = ap last_gives_up (acts_more w acts a e) ∙ last_gave (acts_by w acts) a

-- ------------------------------------------------------------ places
set_there : (qs : List Place) (u : ℕ) (q : Place) → get_or qs u Done ≢ Done → get_or (set qs u q) u Done ≡ q
set_there [] u q n = absurd (n refl)
set_there (x ∷ qs) zero q n = refl
set_there (x ∷ qs) (suc u) q n = set_there qs u q n

-- another place than an owner's makes no owner
set_back : (qs : List Place) (u : ℕ) (q : Place) (t w : ℕ) → get_or (set qs u q) t Done ≡ OwnedBy w → (get_or qs t Done ≡ OwnedBy w) ⊎ ((t ≡ u) × (q ≡ OwnedBy w))
set_back [] u q t w e = inl e
set_back (x ∷ qs) zero q zero w e = inr (refl, e)
set_back (x ∷ qs) zero q (suc t) w e = inl e
set_back (x ∷ qs) (suc u) q zero w e = inl e
set_back (x ∷ qs) (suc u) q (suc t) w e = elim (set_back qs u q t w e) [ inl a ↦ inl a | inr b ↦ inr (ap suc b.0, b.1) ]

set_plain : (qs : List Place) (u : ℕ) (q : Place) (t w : ℕ) → q ≢ OwnedBy w → get_or (set qs u q) t Done ≡ OwnedBy w → get_or qs t Done ≡ OwnedBy w
set_plain qs u q t w n e = elim (set_back qs u q t w e) [ inl a ↦ a | inr b ↦ absurd (n b.1) ]

wake_back : (ts : List ℕ) (qs : List Place) (t w : ℕ) → get_or (wake_all ts qs) t Done ≡ OwnedBy w → get_or qs t Done ≡ OwnedBy w
wake_back [] qs t w e = e
wake_back (u ∷ ts) qs t w e = set_plain qs u Woken t w (λ d. cc) (wake_back ts (set qs u Woken) t w e)

owner_owns : (qs : List Place) (t w : ℕ) → get_or qs t Done ≡ OwnedBy w → owns w qs ≡ true
owner_owns [] t w e = cc
owner_owns (q ∷ qs) zero w e = ap (λ k. is_owned w k || owns w qs) e ∙ ap (λ b. b || owns w qs) (eq-eqb w w refl)
owner_owns (q ∷ qs) (suc t) w e = or_right (is_owned w q) (owns w qs) (owner_owns qs t w e)

both : (a b : Bool) → a && b ≡ true → (a ≡ true) × (b ≡ true)
both true b e = (refl, e)
both false b e = cc

not_false : (a : Bool) → not a ≡ true → a ≡ false
not_false true e = cc
not_false false e = refl

woken_is : (q : Place) → is_woken q ≡ true → q ≡ Woken
woken_is Woken e = refl
woken_is (OwnedBy v) e = cc
woken_is (AtGate g) e = cc
woken_is (AtChannel g c) e = cc
woken_is Done e = cc

pub owned_is : (w : ℕ) (q : Place) → is_owned w q ≡ true → q ≡ OwnedBy w
owned_is w (OwnedBy v) e = ap OwnedBy (eqb-true v w e)
owned_is w Woken e = cc
owned_is w (AtGate g) e = cc
owned_is w (AtChannel g c) e = cc
owned_is w Done e = cc

-- ------------------------------------------------------------ what an entry does to its worker's task
-- its worker goes on with it, gives it back, or fails
pub data How (v u : ℕ) (k : EntryKind) {B : Type 0} (new : Frame B) : Type 0 where
  has : keeps_task k ≡ true → is_failed k ≡ false → place_of new u ≡ OwnedBy v → How v u k new
  leaves : keeps_task k ≡ false → is_failed k ≡ false → ((w : ℕ) → place_of new u ≢ OwnedBy w) → How v u k new
  fails : keeps_task k ≡ false → is_failed k ≡ true → is_some new.failure ≡ true → How v u k new

-- nobody becomes an owner
abbrev pub Back : {B : Type 0} → Frame B → Frame B → Type 0
Back f new = (t w : ℕ) → place_of new t ≡ OwnedBy w → place_of f t ≡ OwnedBy w

module _ {B : Type 0} where
  moved_back : (f : Frame B) (g : ℕ) (m : Moved B) → Back f (moved f g m)
  unfolding wake put_gate
  moved_back f g m t w e = wake_back m.woken f.places t w e

  drops_back : (xs : List (ℕ × ℕ)) (f : Frame B) → Back f (drops xs f)
  drops_back [] f t w e = e
  drops_back (x ∷ xs) f t w e = moved_back f x.0 (dropped (gate_of f x.0) x.1) t w (drops_back xs _ t w e)

  ends_in_back : (g : ℕ) (cs : List ℕ) (f : Frame B) → Back f (ends_in g cs f)
  ends_in_back g [] f t w e = e
  ends_in_back g (c ∷ cs) f t w e = moved_back f g (ended (gate_of f g) c) t w (ends_in_back g cs _ t w e)

  ends_back : (o : Option ℕ) (cs : List ℕ) (f : Frame B) → Back f (ends o cs f)
  ends_back None cs f t w e = e
  ends_back (Some g) cs f t w e = ends_in_back g cs f t w e

  finished_back : (p : Shape) (f : Frame B) (u : ℕ) → Back f (finished p f u)
  unfolding move_to with_pool
  finished_back p f u t w e = drops_back (task_at p u).receives f t w (ends_back (task_at p u).sends (task_at p u).targets _ t w
      (set_plain (ends (task_at p u).sends (task_at p u).targets (drops (task_at p u).receives f)).places u Done t w (λ d. cc) e))

  send_back : (f : Frame B) (u g c : ℕ) (x : B) (live opened : Bool) → Back f (made_send f u g c x live opened).frame
  unfolding progress_is move_to put_gate
  send_back f u g c x false opened t w e = e
  send_back f u g c x true true t w e = moved_back f g (sent (gate_of f g) c x) t w e
  send_back f u g c x true false t w e = set_plain f.places u (AtGate g) t w (λ d. cc) e

  send_to_back : (f : Frame B) (u c : ℕ) (x : B) (o : Option ℕ) → Back f (made_send_to f u o c x).frame
  unfolding progress_is
  send_to_back f u c x None t w e = e
  send_to_back f u c x (Some g) t w e = send_back f u g c x _ _ t w e

  recv_back : (f : Frame B) (u g c : ℕ) (empty over : Bool) → Back f (made_recv f u g c empty over).frame
  unfolding progress_is move_to put_gate
  recv_back f u g c false over t w e = moved_back f g (received (gate_of f g) c) t w e
  recv_back f u g c true true t w e = e
  recv_back f u g c true false t w e = set_plain f.places u (AtChannel g c) t w (λ d. cc) e

  grow_back : (f : Frame B) (u c bytes : ℕ) (granted gives : Bool) → Back f (made_grow f u c bytes granted gives).frame
  unfolding progress_is with_pool failed
  grow_back f u c bytes true gives t w e = e
  grow_back f u c bytes false true t w e = e
  grow_back f u c bytes false false t w e = e

  made_back : (p : Shape) (f : Frame B) (u : ℕ) (need : Need B) → Back f (made p f u need).frame
  unfolding progress_is with_pool failed
  made_back p f u Scan t w e = e
  made_back p f u (Recv g c) t w e = recv_back f u g c _ _ t w e
  made_back p f u (Send c x) t w e = send_to_back f u c x (task_at p u).sends t w e
  made_back p f u (Grow c bytes) t w e = grow_back f u c bytes _ _ t w e
  made_back p f u (Free c bytes) t w e = e
  made_back p f u Writes t w e = e
  made_back p f u Finish t w e = finished_back p f u t w e
  made_back p f u (Fail cause) t w e = e

  -- ------------------------------------------------------------ what its owner's entry does to a task
  module _ (v u : ℕ) (b : Bool) where
    place_is : (f : Frame B) → Has v u b f → get_or f.places u Done ≢ Done
    place_is f h e = (let z : Done ≡ OwnedBy v = sym e ∙ h.place in cc)

    moved_to : (f : Frame B) (q : Place) (queue : List ℕ) → Has v u b f → place_of (move_to f u q queue) u ≡ q
    unfolding move_to
    moved_to f q queue h = set_there f.places u q (place_is f h)

    gone_to : (k : EntryKind) (f : Frame B) (q : Place) (queue : List ℕ) → keeps_task k ≡ false → is_failed k ≡ false → ((w : ℕ) → q ≢ OwnedBy w) → Has v u b f → How v u k (move_to f u q queue)
    gone_to k f q queue l m n h = leaves l m (λ w e. n w (sym (moved_to f q queue h) ∙ e))

    waits_how : (k : EntryKind) (f : Frame B) (g : ℕ) (x : Gate B) (q : Place) → keeps_task k ≡ false → is_failed k ≡ false → ((w : ℕ) → q ≢ OwnedBy w) → Has v u b f → How v u k (move_to (put_gate f g x) u q f.queue)
    unfolding move_to put_gate
    waits_how k f g x q l m n h = leaves l m (λ w e. n w (sym (set_there f.places u q (place_is f h)) ∙ e))

    on_has : (k : EntryKind) (f : Frame B) → keeps_task k ≡ true → is_failed k ≡ false → Has v u b f → How v u k (goes_on f u)
    unfolding progress_is
    on_has k f l m h = has l m h.place

    ended_how : (p : Shape) (f : Frame B) → Has v u b f → How v u Finished (finished p f u)
    ended_how p f h = gone_to Finished _ Done _ refl refl (λ w e. cc) (pool_has u v b _ _ (ending_has u v b p f u h))

    send_how : (f : Frame B) (g c : ℕ) (x : B) (live opened : Bool) → Has v u b f → How v u (made_send f u g c x live opened).kind (made_send f u g c x live opened).frame
    send_how f g c x false opened h = on_has Dropped f refl refl h
    send_how f g c x true true h = on_has Sent _ refl refl (moved_has u v b f g _ h (sent_clear u (gate_of f g) c x (clear_at u v b f g h)))
    send_how f g c x true false h = waits_how Held f g _ (AtGate g) refl refl (λ w e. cc) h

    send_to_how : (f : Frame B) (c : ℕ) (x : B) (o : Option ℕ) → Has v u b f → How v u (made_send_to f u o c x).kind (made_send_to f u o c x).frame
    send_to_how f c x None h = on_has Dropped f refl refl h
    send_to_how f c x (Some g) h = send_how f g c x _ _ h

    recv_how : (f : Frame B) (g c : ℕ) (empty over : Bool) → Has v u b f → How v u (made_recv f u g c empty over).kind (made_recv f u g c empty over).frame
    recv_how f g c false over h = on_has Received _ refl refl (moved_has u v b f g _ h (received_clear u (gate_of f g) c (clear_at u v b f g h)))
    recv_how f g c true true h = on_has Ended f refl refl h
    recv_how f g c true false h = waits_how Empty f g _ (AtChannel g c) refl refl (λ w e. cc) h

    failed_how : (k : EntryKind) (f : Frame B) (cause : _) → keeps_task k ≡ false → is_failed k ≡ true → How v u k (failed f cause)
    unfolding failed
    failed_how k f cause l m = fails l m refl

    grow_how : (f : Frame B) (c bytes : ℕ) (granted gives : Bool) → Has v u b f → How v u (made_grow f u c bytes granted gives).kind (made_grow f u c bytes granted gives).frame
    grow_how f c bytes true gives h = on_has Granted _ refl refl (pool_has u v b f _ h)
    grow_how f c bytes false true h = on_has Refused f refl refl h
    grow_how f c bytes false false h = failed_how _ f _ refl refl

    made_how : (p : Shape) (f : Frame B) (need : Need B) → Has v u b f → How v u (made p f u need).kind (made p f u need).frame
    made_how p f Scan h = on_has Scanned f refl refl h
    made_how p f (Recv g c) h = recv_how f g c _ _ h
    made_how p f (Send c x) h = send_to_how f c x (task_at p u).sends h
    made_how p f (Grow c bytes) h = grow_how f c bytes _ _ h
    made_how p f (Free c bytes) h = on_has Freed _ refl refl (pool_has u v b f _ h)
    made_how p f Writes h = on_has Wrote f refl refl h
    made_how p f Finish h = ended_how p f h
    made_how p f (Fail cause) h = failed_how _ f _ refl refl

may_failed : (k : EntryKind) → may_fail k ≡ true → (keeps_task k ≡ false) × (is_failed k ≡ true)
may_failed (Failed cause) e = (refl, refl)
may_failed _ e = cc

has_yielded : (k : EntryKind) → is_yielded k ≡ true → (keeps_task k ≡ false) × (is_failed k ≡ false)
has_yielded Yielded e = (refl, refl)
has_yielded _ e = cc

-- ------------------------------------------------------------ a step
-- what an entry of worker v on task u does: only v may become an owner, and only of u, where it had none
pub record Does {B : Type 0} (v u : ℕ) (k : EntryKind) (f new : Frame B) : Type 0 where
  pub how : How v u k new
  pub back : (t w : ℕ) → place_of new t ≡ OwnedBy w → (place_of f t ≡ OwnedBy w) ⊎ ((t ≡ u) × (w ≡ v))
  pub one : (t : ℕ) → place_of f t ≡ OwnedBy v → t ≡ u

module _ {B : Type 0} (p : Shape) (f : Frame B) (lawful : IsLawful p f) (v u : ℕ) (k : EntryKind) where
  owner_does : (need : Need B) → place_of f u ≡ OwnedBy v → IfSome (owner_step p f u k need) (Does v u k f)
  unfolding failed move_to
  owner_does need at = within_if (Does v u k f) (may_fail k) _ _ (λ e. let z : (keeps_task k ≡ false) × (is_failed k ≡ true) = may_failed k e in record { how = fails z.0 z.1 refl; back = λ t w i. inl i; one = only })
      (λ _. within_if (Does v u k f) (is_yielded k && get_or f.progress u false) _ _
      (λ e. let z : (keeps_task k ≡ false) × (is_failed k ≡ false) = has_yielded k (both (is_yielded k) _ e).0 in
      record { how = gone_to v u _ k f Woken _ z.0 z.1 (λ w d. cc) here; back = λ t w i. inl (set_plain f.places u Woken t w (λ d. cc) i); one = only })
      (λ _. within_if (Does v u k f) (same_kind (made p f u need).kind k) _ _
      (λ e. record {
        how = subst (λ j. How v u j (made p f u need).frame) (SameKind.kind_is (made p f u need).kind k e) (made_how v u _ p f need here);
        back = λ t w i. inl (made_back p f u need t w i);
        one = only;
      })
      (λ _. tt)))
    where
      here : Has v u (get_or f.progress u false) f
      here = has_lawful p f v u lawful at

      only : (t : ℕ) → place_of f t ≡ OwnedBy v → t ≡ u
      only t i = lawful.frame.owners t u v i at

  none_owned : owns v f.places ≡ false → (t : ℕ) → place_of f t ≢ OwnedBy v
  none_owned n t e = (let z : true ≡ false = sym (owner_owns f.places t v e) ∙ n in cc)

  claimed_place : place_of f u ≡ Woken → place_of (claimed f u v) u ≡ OwnedBy v
  unfolding move_to progress_is
  claimed_place at = set_there f.places u (OwnedBy v) (λ e. (let z : Done ≡ Woken = sym e ∙ at in cc))

  claimed_back : (t w : ℕ) → place_of (claimed f u v) t ≡ OwnedBy w → (place_of f t ≡ OwnedBy w) ⊎ ((t ≡ u) × (w ≡ v))
  unfolding move_to progress_is
  claimed_back t w e = elim (set_back f.places u (OwnedBy v) t w e) [ inl a ↦ inl a | inr b ↦ inr (b.0, (let z : OwnedBy v ≡ OwnedBy w = b.1 in cc)) ]

  claim_does : (j : EntryKind) → IfSome (claim_step f u v j) (Does v u j f)
  unfolding failed
  claim_does Claimed = within_if (Does v u Claimed f) (may_claim f u v) _ _
      (λ e. let z : (is_woken (place_of f u) ≡ true) × (not (owns v f.places) ≡ true) = both (is_woken (place_of f u)) _ e in
      record { how = has refl refl (claimed_place (woken_is (place_of f u) z.0)); back = claimed_back; one = λ t i. absurd (none_owned (not_false _ z.1) t i) })
      (λ _. tt)
  claim_does (Failed NoMemory) = within_if (Does v u (Failed NoMemory) f) (may_claim f u v) _ _
      (λ e. let z : (is_woken (place_of f u) ≡ true) × (not (owns v f.places) ≡ true) = both (is_woken (place_of f u)) _ e in
      record { how = fails refl refl refl; back = λ t w i. inl i; one = λ t i. absurd (none_owned (not_false _ z.1) t i) })
      (λ _. tt)
  claim_does _ = tt

-- a step, of a frame that hasn't failed
pub record Acts {B : Type 0} (v u : ℕ) (k : EntryKind) (f new : Frame B) : Type 0 where
  pub does : Does v u k f new
  pub going : is_some f.failure ≡ false

pub step_does : {B : Type 0} (p : Shape) (f : Frame B) (e : Entry) (need : Need B) → IsLawful p f → IfSome (frame_step p f e need) (Acts e.worker e.task e.kind f)
step_does {B} p f e need lawful = within_if (Acts e.worker e.task e.kind f) (is_over f) _ _ (λ _. tt)
    (λ over. also (cond (is_owned e.worker (place_of f e.task)) (owner_step p f e.task e.kind need) (claim_step f e.task e.worker e.kind)) (or_parts (all_done f.places) (is_some f.failure) over).1
    (within_if (Does e.worker e.task e.kind f) (is_owned e.worker (place_of f e.task)) _ _
    (λ at. owner_does p f lawful e.worker e.task e.kind need (owned_is e.worker (place_of f e.task) at))
    (λ _. claim_does p f lawful e.worker e.task e.kind e.kind)))
  where
    also : (o : Option (Frame B)) → is_some f.failure ≡ false → IfSome o (Does e.worker e.task e.kind f) → IfSome o (Acts e.worker e.task e.kind f)
    also None g d = tt
    also (Some new) g d = record { does = d; going = g }

-- ------------------------------------------------------------ loans
pub kept_lent : (e : Entry) → keeps_task e.kind ≡ true → lent_by (Made e) ≡ Some e.task
kept_lent e k = ap (λ b. cond b (Some e.task) None) k

left_lent : (e : Entry) → keeps_task e.kind ≡ false → lent_by (Made e) ≡ None
left_lent e k = ap (λ b. cond b (Some e.task) None) k

pub loans_step : {B : Type 0} (p : Shape) (f new : Frame B) (e : Entry) (need : Need B) (acts : List Act) → IsLawful p f → AreLoans acts f → frame_step p f e need ≡ Some new → AreLoans (acts ++ Made e ∷ []) new
loans_step {B} p f new e need acts lawful loans i = with_how made.does.how
  where
    made : Acts e.worker e.task e.kind f new
    made = subst (λ o. IfSome o (Acts e.worker e.task e.kind f)) i (step_does p f e need lawful)

    lent : (w : ℕ) → e.worker ≡ w → loan_of w (acts ++ Made e ∷ []) ≡ lent_by (Made e)
    lent w same = loan_after w acts (Made e) same

    gave : (w : ℕ) → e.worker ≡ w → gave_up w (acts ++ Made e ∷ []) ≡ is_failed e.kind
    gave w same = gave_new w acts (Made e) same

    other_loan : (w : ℕ) → e.worker ≢ w → loan_of w (acts ++ Made e ∷ []) ≡ loan_of w acts
    other_loan w n = ap last_loan (acts_same w acts (Made e) n)

    other_gave : (w : ℕ) → e.worker ≢ w → gave_up w (acts ++ Made e ∷ []) ≡ gave_up w acts
    other_gave w n = ap last_gives_up (acts_same w acts (Made e) n)

    -- what is the same of other workers
    other_place : (w t : ℕ) → e.worker ≢ w → loan_of w (acts ++ Made e ∷ []) ≡ Some t → place_of new t ≡ OwnedBy w
    other_place w t n l = (subst (λ o. IfSome o (HasApart t w (get_or f.progress t false) e)) i
        (step_has t w (get_or f.progress t false) p f e need n (has_lawful p f w t lawful (loans.place w t (sym (other_loan w n) ∙ l))))).0.place

    other_lent : (w t : ℕ) → e.worker ≢ w → place_of new t ≡ OwnedBy w → (loan_of w (acts ++ Made e ∷ []) ≡ Some t) ⊎ (gave_up w (acts ++ Made e ∷ []) ≡ true)
    other_lent w t n at = elim (made.does.back t w at) [
      | inl before ↦ elim (loans.loan w t before) [ inl l ↦ inl (other_loan w n ∙ l) | inr g ↦ inr (other_gave w n ∙ g) ]
      | inr mine ↦ absurd (n (sym mine.1))
    ]

    -- what the entry's worker owns now is its task
    mine : (t : ℕ) → place_of new t ≡ OwnedBy e.worker → t ≡ e.task
    mine t at = elim (made.does.back t e.worker at) [ inl before ↦ made.does.one t before | inr both ↦ both.0 ]

    from : ((t : ℕ) → loan_of e.worker (acts ++ Made e ∷ []) ≡ Some t → place_of new t ≡ OwnedBy e.worker)
        → ((t : ℕ) → place_of new t ≡ OwnedBy e.worker → (loan_of e.worker (acts ++ Made e ∷ []) ≡ Some t) ⊎ (gave_up e.worker (acts ++ Made e ∷ []) ≡ true))
        → (gave_up e.worker (acts ++ Made e ∷ []) ≡ true → is_some new.failure ≡ true) → AreLoans (acts ++ Made e ∷ []) new
    from a b c = record {
      place = λ w t l. elim (same_or_not e.worker w) [
        | inl same ↦ subst (λ v. place_of new t ≡ OwnedBy v) same (a t (subst (λ v. loan_of v (acts ++ Made e ∷ []) ≡ Some t) (sym same) l))
        | inr n ↦ other_place w t n l
      ];
      loan = λ w t at. elim (same_or_not e.worker w) [
        | inl same ↦ subst (λ v. (loan_of v (acts ++ Made e ∷ []) ≡ Some t) ⊎ (gave_up v (acts ++ Made e ∷ []) ≡ true)) same (b t (subst (λ v. place_of new t ≡ OwnedBy v) (sym same) at))
        | inr n ↦ other_lent w t n at
      ];
      failed = λ w g. elim (same_or_not e.worker w) [
        | inl same ↦ c (subst (λ v. gave_up v (acts ++ Made e ∷ []) ≡ true) (sym same) g)
        | inr n ↦ (let z : true ≡ false = sym (loans.failed w (sym (other_gave w n) ∙ g)) ∙ made.going in cc)
      ];
    }

    with_how : How e.worker e.task e.kind new → AreLoans (acts ++ Made e ∷ []) new
    with_how (has l m at) = from
        (λ t x. let z : Some e.task ≡ Some t = sym (lent e.worker refl ∙ kept_lent e l) ∙ x in let same : e.task ≡ t = cc in subst (λ j. place_of new j ≡ OwnedBy e.worker) same at)
        (λ t x. inl (lent e.worker refl ∙ (kept_lent e l ∙ ap Some (sym (mine t x)))))
        (λ g. let z : false ≡ true = sym (gave e.worker refl ∙ m) ∙ g in cc)
    with_how (leaves l m n) = from
        (λ t x. let z : None ≡ Some t = sym (lent e.worker refl ∙ left_lent e l) ∙ x in cc)
        (λ t x. absurd (n e.worker (subst (λ j. place_of new j ≡ OwnedBy e.worker) (mine t x) x)))
        (λ g. let z : false ≡ true = sym (gave e.worker refl ∙ m) ∙ g in cc)
    with_how (fails l m s) = from
        (λ t x. let z : None ≡ Some t = sym (lent e.worker refl ∙ left_lent e l) ∙ x in cc)
        (λ t x. inr (gave e.worker refl ∙ m))
        (λ g. s)

pub loans_returned : {B : Type 0} (f : Frame B) (acts : List Act) (v u : ℕ) → AreLoans acts f → is_some f.failure ≡ true → AreLoans (acts ++ Returned v u ∷ []) f
loans_returned {B} f acts v u loans over = record {
  place = λ w t l. elim (same_or_not v w) [
    | inl same ↦ (let z : None ≡ Some t = sym (loan_after w acts (Returned v u) same) ∙ l in cc)
    | inr n ↦ loans.place w t (sym (ap last_loan (acts_same w acts (Returned v u) n)) ∙ l)
  ];
  loan = λ w t at. elim (same_or_not v w) [
    | inl same ↦ inr (gave_new w acts (Returned v u) same)
    | inr n ↦ elim (loans.loan w t at) [ inl l ↦ inl (ap last_loan (acts_same w acts (Returned v u) n) ∙ l) | inr g ↦ inr (ap last_gives_up (acts_same w acts (Returned v u) n) ∙ g) ]
  ];
  failed = λ w g. over;
}

pub loans_opening : {B : Type 0} (p : Shape) (limit : ℕ) → AreLoans {B = B} [] (opening p limit)
loans_opening {B} p limit = record {
  place = λ w t l. cc;
  loan = λ w t at. absurd (none t w at);
  failed = λ w g. cc;
}
  where
    none : (t w : ℕ) → place_of {B = B} (opening p limit) t ≢ OwnedBy w
    none t w = tabulate_at (λ _ q. q ≢ OwnedBy w) (length p.tasks) (λ _. Woken) Done t (λ _ e. cc) (λ e. cc)

pub loans_whole : {B : Type 0} (f : Frame B) (acts : List Act) (w t : ℕ) → AreLoans acts f → f.failure ≡ None → place_of f t ≡ OwnedBy w → loan_of w acts ≡ Some t
loans_whole f acts w t loans going at = elim (loans.loan w t at) [ inl l ↦ l | inr g ↦ (let z : true ≡ false = sym (loans.failed w g) ∙ ap (λ o. is_some o) going in cc) ]

-- who owns, owns some task
owned_some : (qs : List Place) (w : ℕ) → owns w qs ≡ true → (t : ℕ) × (get_or qs t Done ≡ OwnedBy w)
owned_some [] w e = cc
owned_some (q ∷ qs) w e = at (is_owned w q) refl e (owned_some qs w)
  where
    at : (b : Bool) → is_owned w q ≡ b → b || owns w qs ≡ true → (owns w qs ≡ true → (t : ℕ) × (get_or qs t Done ≡ OwnedBy w)) → (t : ℕ) × (get_or (q ∷ qs) t Done ≡ OwnedBy w)
    at true i d f = (0, owned_is w q i)
    at false i d f = let x : (t : ℕ) × (get_or qs t Done ≡ OwnedBy w) = f d in (suc x.0, x.1)

pub loans_free : {B : Type 0} (f : Frame B) (acts : List Act) (w : ℕ) → AreLoans acts f → f.failure ≡ None → loan_of w acts ≡ None → owns w f.places ≡ false
loans_free f acts w loans going none = at (owns w f.places) refl
  where
    at : (b : Bool) → owns w f.places ≡ b → owns w f.places ≡ false
    at true i = let x : (t : ℕ) × (place_of f t ≡ OwnedBy w) = owned_some f.places w i in
        let z : None ≡ Some x.0 = sym none ∙ loans_whole f acts w x.0 loans going x.1 in cc
    at false i = i

pub loans_apart : {B : Type 0} (f : Frame B) (acts : List Act) (w v t : ℕ) → AreLoans acts f → loan_of w acts ≡ Some t → loan_of v acts ≡ Some t → w ≡ v
loans_apart f acts w v t loans a b = let z : OwnedBy w ≡ OwnedBy v = sym (loans.place w t a) ∙ loans.place v t b in cc

-- ------------------------------------------------------------ all that the opening leads to
-- the frame is lawful, and its loans are those of the acts
abbrev pub Fine : {B : Type 0} → Shape → List Act → Frame B → Type 0
Fine p acts f = IsLawful p f × AreLoans acts f

module _ {B : Type 0} (p : Shape) (shape : IsShape p) where
  fine_step : (acts : List Act) (f : Frame B) (e : Entry) (need : Need B) (o : Option (Frame B)) → frame_step p f e need ≡ o → IsOwn p e.task need → Fine p acts f → IfSome o (Fine p (acts ++ Made e ∷ []))
  fine_step acts f e need None i own h = tt
  fine_step acts f e need (Some new) i own h = (lawful_step p f new e need shape h.0 own i, loans_step p f new e need acts h.0 h.1 i)

  fine_next : (acts : List Act) (o : Option (Frame B)) (s : Entry × Need B) → IsOwn p (s.0).task s.1 → IfSome o (Fine p acts) → IfSome (next_frame p o s) (Fine p (acts ++ Made s.0 ∷ []))
  fine_next acts None s own h = tt
  fine_next acts (Some f) s own h = fine_step acts f s.0 s.1 (frame_step p f s.0 s.1) refl own h

  pub fine_replay : (acts : List Act) (o : Option (Frame B)) (steps : List (Entry × Need B)) → AreOwn p steps → IfSome o (Fine p acts) → IfSome (frame_replay p o steps) (Fine p (acts ++ map Made (entries_of steps)))
  fine_replay acts o [] own h = subst (λ xs. IfSome o (Fine p xs)) (sym (append-nil acts)) h
  fine_replay acts o (s ∷ steps) own h =
      subst (λ xs. IfSome (frame_replay p (next_frame p o s) steps) (Fine p xs)) (append_assoc acts (Made s.0 ∷ []) (map Made (entries_of steps)))
      (fine_replay (acts ++ Made s.0 ∷ []) (next_frame p o s) steps own.1 (fine_next acts o s own.0 h))

pub loans_replay : {B : Type 0} (p : Shape) (limit : ℕ) (steps : List (Entry × Need B)) (f : Frame B) → IsShape p → AreOwn p steps → frame_replay p (Some (opening p limit)) steps ≡ Some f → Fine p (map Made (entries_of steps)) f
loans_replay p limit steps f shape own i = subst (λ o. IfSome o (Fine p (map Made (entries_of steps)))) i
    (fine_replay p shape [] (Some (opening p limit)) steps own (lawful_opening p limit shape, loans_opening p limit))
