-- What each step of a run with histories keeps, and what holds of each run that steps reach.
use Rattle.std.proofs.Common.{ℕ, ◌<◌, ◌≡◌, refl, sym, ap, ◌∙◌, subst, List, [], ◌∷◌, ◌++◌, length, Bool, true, false, Option, Some, None, cond}
use Rattle.std.proofs.Math.ListN.{length-set}
use Rattle.gate_channels.specs.Gate.{Channel, Gate, no_channel, no_gate, channel_at}
use Rattle.run_journal.specs.declared.entry.Entry.{Entry}
use Rattle.task_shape.specs.Shape.{Shape, IsShape, HasOwners, task_at, is_group, width}
use Rattle.core_frame.specs.Frame.{Frame, place_of, channel_of, unfinished, tabulate, open_channel, open_gate, opening}
use Rattle.core_frame.specs.Step.{Need, frame_step, next_frame, frame_replay}
use Rattle.core_frame.specs.Good.{IsOwn, AreOwn}
use Rattle.core_frame.proofs.Replays.{lawful_step, tabulate_all, length_tabulate}
use Rattle.core_frame.proofs.Sound.{lawful_opening}
use Rattle.history_laws.specs.Histories.{Reply, Past, past_of, Run, begun, reply_of, pasts_after, run_after, run_step, next_run, run_replay, frame_in}
use Rattle.history_laws.specs.Contents.{took, has_end, sent_to, gone, IsTold}
use Rattle.history_laws.specs.Reserved.{kept, owed, IsHeld}
use Rattle.history_laws.specs.Recorded.{IsRecorded}
use Rattle.history_laws.proofs.Ways.{Way, way, way_inside, way_unfinished}
use Rattle.history_laws.proofs.Told.{told_outcome, way_outcome}
use Rattle.history_laws.proofs.Reserved.{held_after, way_held}

some_same : {A : Type 0} (a b : A) → Some a ≡ Some b → a ≡ b
some_same a b e = cc

-- a step with its frame
pub record Stepped {B : Type 0} (p : Shape) (r new : Run B) (e : Entry) (n : Need B) : Type 0 where
  pub step : frame_step p r.frame e n ≡ Some new.frame
  pub pasts : new.pasts ≡ pasts_after r.pasts e.task n (reply_of p r.frame e.task e.kind n)

pub stepped : {B : Type 0} (p : Shape) (r new : Run B) (e : Entry) (n : Need B) → run_step p r e n ≡ Some new → Stepped p r new e n
stepped {B} p r new e n s = go (frame_step p r.frame e n) refl s
  where
    go : (o : Option (Frame B)) → frame_step p r.frame e n ≡ o → run_after p r e n o ≡ Some new → Stepped p r new e n
    go None d z = cc
    go (Some f) d z = subst (λ x. Stepped p r x e n) (some_same _ new z) (record { step = d; pasts = refl })

length_after : {B : Type 0} (pasts : List (Past B)) (t : ℕ) (n : Need B) (o : Option (Reply B)) → length (pasts_after pasts t n o) ≡ length pasts
length_after pasts t n None = refl
length_after pasts t n (Some x) = length-set pasts t _

pub recorded_step : {B : Type 0} (p : Shape) (r new : Run B) (e : Entry) (n : Need B) → IsShape p → IsRecorded p r → IsOwn p e.task n → run_step p r e n ≡ Some new → IsRecorded p new
recorded_step {B} p r new e n sh k own s = record {
  lawful = lawful_step p r.frame new.frame e n sh k.lawful own st.step;
  long = ap length st.pasts ∙ (length_after r.pasts e.task n (reply_of p r.frame e.task e.kind n) ∙ k.long);
  told = subst (IsTold p new.frame) (sym st.pasts) (told_outcome p sh r.frame new.frame r.pasts e.task n (reply_of p r.frame e.task e.kind n)
      (subst (λ m. e.task < m) (sym k.long) inside)
      (way_outcome p sh r.frame e.task e.worker n new.frame (reply_of p r.frame e.task e.kind n) k.lawful own inside (way p r.frame new.frame e n st.step)) k.told);
}
  where
    st : Stepped p r new e n
    st = stepped p r new e n s

    inside : e.task < length p.tasks
    inside = subst (λ m. e.task < m) k.lawful.frame.tasks (way_inside p r.frame e.task e.worker n new.frame (reply_of p r.frame e.task e.kind n) (way p r.frame new.frame e n st.step))

-- ------------------------------------------------------------ the opening

pub past_begun : {B : Type 0} (p : Shape) (limit t : ℕ) → past_of {B = B} (begun p limit).pasts t ≡ []
past_begun {B} p limit t = tabulate_all (λ (h : Past B). h ≡ []) (length p.tasks) (λ _. []) t [] (λ _. refl) refl

empty_begun : {B : Type 0} (p : Shape) (limit g c : ℕ) → (channel_of {B = B} (begun p limit).frame g c).batches ≡ []
empty_begun {B} p limit g c = tabulate_all (λ (x : Gate B). (channel_at x c).batches ≡ []) (length p.widths) (open_gate p) g no_gate
    (λ h. tabulate_all (λ (x : Channel B). x.batches ≡ []) (width p h) (open_channel p h) c no_channel (λ _. refl) refl) refl

none_sent : {B : Type 0} (p : Shape) (u g c : ℕ) (h : Past B) → h ≡ [] → [] ≡ sent_to p u g c h
none_sent {B} p u g c h e = subst (λ (x : Past B). [] ≡ sent_to p u g c x) (sym e) (go (is_group (task_at p u).sends g))
  where
    go : (b : Bool) → [] ≡ cond {A = List B} b [] []
    go true = refl
    go false = refl

pub recorded_opening : {B : Type 0} (p : Shape) (limit : ℕ) → IsShape p → IsRecorded {B = B} p (begun p limit)
recorded_opening {B} p limit sh = record {
  lawful = lawful_opening p limit sh;
  long = length_tabulate (length p.tasks) (λ _. []);
  told = record {
    contents = λ t g c r. record {
      log = [];
      each = λ u. none_sent p u g c (past_of (begun p limit).pasts u) (past_begun p limit u);
      rest = [];
      all = ap (λ h. took g c h ++ []) (past_begun p limit t);
      live = λ _. empty_begun p limit g c;
      over = λ h. (let z : true ≡ false = sym h ∙ ap (has_end g c) (past_begun p limit t) in cc);
    };
    gone = λ u g c q h. (let z : true ≡ false = sym h ∙ ap (gone c) (past_begun p limit u) in cc);
  };
}

-- ------------------------------------------------------------ each run that steps reach

pub recorded_replay : {B : Type 0} (p : Shape) (ss : List (Entry × Need B)) (o : Option (Run B)) → IsShape p → ((r : Run B) → o ≡ Some r → IsRecorded p r) → AreOwn p ss → (r : Run B) → run_replay p o ss ≡ Some r → IsRecorded p r
recorded_replay p [] o sh k own r e = k r e
recorded_replay {B} p (s ∷ ss) o sh k own r e = recorded_replay p ss (next_run p o s) sh (λ r2 e2. next o k r2 e2) own.1 r e
  where
    next : (o : Option (Run B)) → ((r : Run B) → o ≡ Some r → IsRecorded p r) → (r2 : Run B) → next_run p o s ≡ Some r2 → IsRecorded p r2
    next None k r2 e2 = cc
    next (Some r1) k r2 e2 = recorded_step p r1 r2 s.0 s.1 sh (k r1 refl) own.0 e2

pub recorded : {B : Type 0} (p : Shape) (limit : ℕ) (ss : List (Entry × Need B)) (r : Run B) → IsShape p → AreOwn p ss → run_replay p (Some (begun p limit)) ss ≡ Some r → IsRecorded p r
recorded {B} p limit ss r sh own e = recorded_replay p ss (Some (begun p limit)) sh (λ r1 e1. subst (IsRecorded p) (some_same (begun p limit) r1 e1) (recorded_opening p limit sh)) own r e

-- ------------------------------------------------------------ the frames are those of the steps without histories

frame_after : {B : Type 0} (p : Shape) (r : Run B) (e : Entry) (n : Need B) (o : Option (Frame B)) → frame_in (run_after p r e n o) ≡ o
frame_after p r e n None = refl
frame_after p r e n (Some f) = refl

frame_next : {B : Type 0} (p : Shape) (o : Option (Run B)) (s : Entry × Need B) → frame_in (next_run p o s) ≡ next_frame p (frame_in o) s
frame_next p None s = refl
frame_next p (Some r) s = frame_after p r s.0 s.1 (frame_step p r.frame s.0 s.1)

pub same_frames : {B : Type 0} (p : Shape) (ss : List (Entry × Need B)) (o : Option (Run B)) → frame_in (run_replay p o ss) ≡ frame_replay p (frame_in o) ss
same_frames p [] o = refl
same_frames p (s ∷ ss) o = same_frames p ss (next_run p o s) ∙ ap (λ x. frame_replay p x ss) (frame_next p o s)

-- ------------------------------------------------------------ reservations

pub held_step : {B : Type 0} (p : Shape) (r new : Run B) (e : Entry) (n : Need B) → IsShape p → HasOwners p → IsRecorded p r → IsOwn p e.task n → run_step p r e n ≡ Some new → IsHeld p r.frame r.pasts → IsHeld p new.frame new.pasts
held_step {B} p r new e n sh owners k own s h = subst (IsHeld p new.frame) (sym st.pasts) (held_after p owners r.frame new.frame r.pasts e.task n (reply_of p r.frame e.task e.kind n)
    (subst (λ m. e.task < m) (k.lawful.frame.tasks ∙ sym k.long) (way_inside p r.frame e.task e.worker n new.frame (reply_of p r.frame e.task e.kind n) went))
    (way_unfinished p r.frame e.task e.worker n new.frame (reply_of p r.frame e.task e.kind n) went)
    (way_held p sh owners r.frame e.task e.worker n new.frame (reply_of p r.frame e.task e.kind n) k.lawful h.wide own went) h)
  where
    st : Stepped p r new e n
    st = stepped p r new e n s

    went : Way p r.frame e.task e.worker n new.frame (reply_of p r.frame e.task e.kind n)
    went = way p r.frame new.frame e n st.step

owed_zero : (b : Bool) → 0 ≡ owed b 0
owed_zero true = refl
owed_zero false = refl

pub held_opening : {B : Type 0} (p : Shape) (limit : ℕ) → IsHeld {B = B} p (opening p limit) (tabulate (length p.tasks) (λ _. []))
held_opening {B} p limit = record {
  wide = length_tabulate (length p.spillable) (λ _. 0);
  holds = λ t c h. tabulate_all (λ (x : ℕ). x ≡ 0) (length p.spillable) (λ _. 0) c 0 (λ _. refl) refl
      ∙ (owed_zero (unfinished (place_of {B = B} (opening p limit) t)) ∙ ap (λ z. owed (unfinished (place_of {B = B} (opening p limit) t)) (kept c z)) (sym (past_begun {B = B} p limit t)));
}

held_replay : {B : Type 0} (p : Shape) (ss : List (Entry × Need B)) (o : Option (Run B)) → IsShape p → HasOwners p → ((r : Run B) → o ≡ Some r → IsRecorded p r × IsHeld p r.frame r.pasts) → AreOwn p ss → (r : Run B) → run_replay p o ss ≡ Some r → IsHeld p r.frame r.pasts
held_replay p [] o sh owners k own r e = (k r e).1
held_replay {B} p (s ∷ ss) o sh owners k own r e = held_replay p ss (next_run p o s) sh owners (λ r2 e2. next o k r2 e2) own.1 r e
  where
    next : (o : Option (Run B)) → ((r : Run B) → o ≡ Some r → IsRecorded p r × IsHeld p r.frame r.pasts) → (r2 : Run B) → next_run p o s ≡ Some r2 → IsRecorded p r2 × IsHeld p r2.frame r2.pasts
    next None k r2 e2 = cc
    next (Some r1) k r2 e2 = (let b = k r1 refl in (recorded_step p r1 r2 s.0 s.1 sh b.0 own.0 e2, held_step p r1 r2 s.0 s.1 sh owners b.0 own.0 e2 b.1))

pub reserved : {B : Type 0} (p : Shape) (limit : ℕ) (ss : List (Entry × Need B)) (r : Run B) → IsShape p → HasOwners p → AreOwn p ss → run_replay p (Some (begun p limit)) ss ≡ Some r → IsHeld p r.frame r.pasts
reserved {B} p limit ss r sh owners own e = held_replay p ss (Some (begun p limit)) sh owners (λ r1 e1. subst (λ x. IsRecorded p x × IsHeld p x.frame x.pasts) (some_same (begun p limit) r1 e1) (recorded_opening p limit sh, held_opening p limit)) own r e
