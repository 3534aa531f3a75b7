-- The ways in which a step goes.
use Rattle.std.proofs.Common.{ℕ, ◌<◌, ◌≡◌, ◌⊎◌, inl, inr, refl, sym, ap, ◌∙◌, subst, cond, length, get_or, Bool, true, false, ◌&&◌, not, Option, Some, None}
use Rattle.std.proofs.lemmas.Bool.{eqb-true}
use Rattle.run_journal.specs.declared.cause.Cause.{Cause}
use Rattle.run_journal.specs.declared.cause.Cause.TheVariants.{NoMemory}
use Rattle.run_journal.specs.declared.entry.Entry.{Entry}
use Rattle.run_journal.specs.declared.entry.EntryKind.{EntryKind}
use Rattle.run_journal.specs.declared.entry.EntryKind.TheVariants.{Claimed, Scanned, Received, Empty, Ended, Sent, Held, Dropped, Granted, Refused, Freed, Wrote, Yielded, Finished, Failed}
use Rattle.run_journal.specs.SameKind.{same_kind}
use Rattle.run_journal.proofs.SameKind.{kind_is}
use Rattle.task_shape.specs.Shape.{Shape}
use Rattle.core_frame.specs.declared.place.Place.{Place}
use Rattle.core_frame.specs.declared.place.Place.TheVariants.{Woken, OwnedBy, AtGate, AtChannel, Done}
use Rattle.core_frame.specs.Frame.{Frame, place_of, unfinished, is_woken, is_owned, owns}
use Rattle.core_frame.specs.Step.{Need, failed, made, may_fail, cause_of, is_yielded, claimed, yielded, may_claim, owner_step, claim_step, is_over, frame_step}
use Rattle.core_frame.proofs.Moves.{not_done_inside}
use Rattle.history_laws.specs.Histories.{Reply, reply_of}

-- the frame after an entry of kind k by worker w of task t, and what it answers: the run fails, the task yields or is claimed, or its need is met
pub data Way {B : Type 0} (p : Shape) (f : Frame B) (t w : ℕ) (n : Need B) : Frame B → Option (Reply B) → Type 0 where
  fails : (cause : Cause) → unfinished (place_of f t) ≡ true → Way p f t w n (failed f cause) None
  yields : place_of f t ≡ OwnedBy w → Way p f t w n (yielded f t) None
  claims : place_of f t ≡ Woken → Way p f t w n (claimed f t w) None
  makes : place_of f t ≡ OwnedBy w → Way p f t w n (made p f t n).frame (reply_of p f t (made p f t n).kind n)

-- which way a choice went
chosen : {A : Type 0} (b : Bool) (x y z : A) → cond b x y ≡ z → ((b ≡ true) × (x ≡ z)) ⊎ ((b ≡ false) × (y ≡ z))
chosen true x y z e = inl (refl, e)
chosen false x y z e = inr (refl, e)

some_same : {A : Type 0} (a b : A) → Some a ≡ Some b → a ≡ b
some_same a b e = cc

owned_is : (w : ℕ) (q : Place) → is_owned w q ≡ true → q ≡ OwnedBy w
owned_is w (OwnedBy v) e = ap OwnedBy (eqb-true v w e)
owned_is w Woken e = cc
owned_is w (AtGate g) e = cc
owned_is w (AtChannel g c) e = cc
owned_is w Done e = cc

woken_is : (q : Place) → is_woken q ≡ true → q ≡ Woken
woken_is Woken e = refl
woken_is (OwnedBy v) e = cc
woken_is (AtGate g) e = cc
woken_is (AtChannel g c) e = cc
woken_is Done e = cc

first_true : (a b : Bool) → a && b ≡ true → a ≡ true
first_true true b e = refl
first_true false b e = e

fails_reply : {B : Type 0} (p : Shape) (f : Frame B) (t : ℕ) (k : EntryKind) (n : Need B) → may_fail k ≡ true → reply_of p f t k n ≡ None
fails_reply p f t (Failed e) n h = refl
fails_reply p f t Claimed n h = cc
fails_reply p f t Scanned n h = cc
fails_reply p f t Received n h = cc
fails_reply p f t Empty n h = cc
fails_reply p f t Ended n h = cc
fails_reply p f t Sent n h = cc
fails_reply p f t Held n h = cc
fails_reply p f t Dropped n h = cc
fails_reply p f t Granted n h = cc
fails_reply p f t Refused n h = cc
fails_reply p f t Freed n h = cc
fails_reply p f t Wrote n h = cc
fails_reply p f t Yielded n h = cc
fails_reply p f t Finished n h = cc

yields_reply : {B : Type 0} (p : Shape) (f : Frame B) (t : ℕ) (k : EntryKind) (n : Need B) → is_yielded k ≡ true → reply_of p f t k n ≡ None
yields_reply p f t Yielded n h = refl
yields_reply p f t (Failed e) n h = refl
yields_reply p f t Claimed n h = refl
yields_reply p f t Finished n h = refl
yields_reply p f t Empty n h = refl
yields_reply p f t Held n h = refl
yields_reply p f t Scanned n h = cc
yields_reply p f t Received n h = cc
yields_reply p f t Ended n h = cc
yields_reply p f t Sent n h = cc
yields_reply p f t Dropped n h = cc
yields_reply p f t Granted n h = cc
yields_reply p f t Refused n h = cc
yields_reply p f t Freed n h = cc
yields_reply p f t Wrote n h = cc

module _ {B : Type 0} (p : Shape) (f f2 : Frame B) (t w : ℕ) (n : Need B) where
  -- the same way, with another name of the frame and of the answer
  named : (x : Frame B) (o o2 : Option (Reply B)) → Way p f t w n x o → o2 ≡ o → Some x ≡ Some f2 → Way p f t w n f2 o2
  named x o o2 way e d = subst (λ q. Way p f t w n f2 q) (sym e) (subst (λ y. Way p f t w n y o) (some_same x f2 d) way)

  owner_way : (k : EntryKind) → place_of f t ≡ OwnedBy w → owner_step p f t k n ≡ Some f2 → Way p f t w n f2 (reply_of p f t k n)
  owner_way k at e = elim (chosen (may_fail k) _ _ _ e) [
    | inl x ↦ named (failed f (cause_of k)) None (reply_of p f t k n) (fails (cause_of k) (ap unfinished at)) (fails_reply p f t k n x.0) x.1
    | inr x ↦ elim (chosen (is_yielded k && get_or f.progress t false) _ _ _ x.1) [
      | inl y ↦ named (yielded f t) None (reply_of p f t k n) (yields at) (yields_reply p f t k n (first_true (is_yielded k) (get_or f.progress t false) y.0)) y.1
      | inr y ↦ elim (chosen (same_kind (made p f t n).kind k) _ _ _ y.1) [
        | inl z ↦ named (made p f t n).frame (reply_of p f t (made p f t n).kind n) (reply_of p f t k n) (makes at) (ap (λ j. reply_of p f t j n) (sym (kind_is (made p f t n).kind k z.0))) z.1
        | inr z ↦ (let v : None ≡ Some f2 = z.1 in cc)
      ]
    ]
  ]

  awake : may_claim f t w ≡ true → place_of f t ≡ Woken
  awake e = woken_is (place_of f t) (first_true (is_woken (place_of f t)) (not (owns w f.places)) e)

  claim_way : (k : EntryKind) → claim_step f t w k ≡ Some f2 → Way p f t w n f2 (reply_of p f t k n)
  claim_way Claimed e = elim (chosen (may_claim f t w) _ _ _ e) [
    | inl x ↦ named (claimed f t w) None None (claims (awake x.0)) refl x.1
    | inr x ↦ (let v : None ≡ Some f2 = x.1 in cc)
  ]
  claim_way (Failed NoMemory) e = elim (chosen (may_claim f t w) _ _ _ e) [
    | inl x ↦ named (failed f NoMemory) None None (fails NoMemory (ap unfinished (awake x.0))) refl x.1
    | inr x ↦ (let v : None ≡ Some f2 = x.1 in cc)
  ]
  claim_way _ e = cc

pub way : {B : Type 0} (p : Shape) (f f2 : Frame B) (e : Entry) (n : Need B) → frame_step p f e n ≡ Some f2 → Way p f e.task e.worker n f2 (reply_of p f e.task e.kind n)
way p f f2 e n s = elim (chosen (is_over f) _ _ _ s) [
  | inl x ↦ (let v : None ≡ Some f2 = x.1 in cc)
  | inr x ↦ elim (chosen (is_owned e.worker (place_of f e.task)) _ _ _ x.1) [
    | inl y ↦ owner_way p f f2 e.task e.worker n e.kind (owned_is e.worker (place_of f e.task) y.0) y.1
    | inr y ↦ claim_way p f f2 e.task e.worker n e.kind y.1
  ]
]

-- an entry is of an unfinished task
pub way_unfinished : {B : Type 0} (p : Shape) (f : Frame B) (t w : ℕ) (n : Need B) (f2 : Frame B) (o : Option (Reply B)) → Way p f t w n f2 o → unfinished (place_of f t) ≡ true
way_unfinished p f t w n f2 o (fails cause u) = u
way_unfinished p f t w n f2 o (yields at) = ap unfinished at
way_unfinished p f t w n f2 o (claims at) = ap unfinished at
way_unfinished p f t w n f2 o (makes at) = ap unfinished at

pub way_inside : {B : Type 0} (p : Shape) (f : Frame B) (t w : ℕ) (n : Need B) (f2 : Frame B) (o : Option (Reply B)) → Way p f t w n f2 o → t < length f.places
way_inside p f t w n f2 o way = not_done_inside f t (λ e. (let z : true ≡ false = sym (way_unfinished p f t w n f2 o way) ∙ ap unfinished e in cc))
