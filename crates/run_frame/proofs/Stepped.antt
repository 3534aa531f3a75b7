-- What a step leaves of the places: only the entry's own task stops or begins to be owned, and only Finished ends a task.
use Rattle.std.proofs.Common.{ℕ, ◌<◌, ◌≡◌, ◌≢◌, ◌⊎◌, inl, inr, refl, sym, ap, ◌∙◌, subst, eqb, cond, length, get_or, set, Bool, true, false, ◌&&◌, not, Option, Some, None, get_or-set_same}
use Rattle.std.proofs.lemmas.Bool.{eq-eqb, eqb-true}
use Rattle.run_journal.specs.declared.cause.Cause.TheVariants.{NoMemory}
use Rattle.run_journal.specs.declared.entry.Entry.{Entry}
use Rattle.run_journal.specs.declared.entry.EntryKind.{EntryKind}
use Rattle.run_journal.specs.declared.entry.EntryKind.TheVariants.{Claimed, Scanned, Received, Empty, Ended, Sent, Held, Dropped, Granted, Refused, Freed, Wrote, Yielded, Finished, Failed}
use Rattle.run_journal.specs.SameKind.{same_kind}
use Rattle.run_journal.proofs.SameKind.{kind_is}
use Rattle.gate_channels.specs.Gate.{Channel, is_empty, is_open, sent, received}
use Rattle.fair_pool.specs.Share.{can_spill, held_by, grants}
use Rattle.task_shape.specs.Shape.{Shape, IsShape, task_at}
use Rattle.core_frame.specs.Frame.{Frame, place_of, gate_of, channel_of, unfinished, is_woken, is_owned, owns}
use Rattle.core_frame.specs.declared.place.Place.{Place}
use Rattle.core_frame.specs.declared.place.Place.TheVariants.{Woken, OwnedBy, AtGate, AtChannel, Done}
use Rattle.core_frame.specs.Step.{Need, Scan, Recv, Send, Grow, Free, Writes, Finish, Fail, put_gate, moved, with_pool, move_to, progress_is, failed, goes_on, drops, ends_in, ends, finished, made, made_send, made_send_to, made_recv, made_grow, may_fail, cause_of, is_yielded, claimed, yielded, may_claim, owner_step, claim_step, is_over, frame_step}
use Rattle.core_frame.specs.Lawful.{IsFrame, IsLawful}
use Rattle.core_frame.specs.Good.{IsOwn}
use Rattle.core_frame.proofs.Lists.{read_other}
use Rattle.core_frame.proofs.Moves.{Woke, not_done_inside}
use Rattle.core_frame.proofs.Gates.{channel_inside, sent_effect, received_effect}
use Rattle.core_frame.proofs.Steps.{moved_woke, woke_owner, woke_unfinished}
use Rattle.core_frame.proofs.Entries.{group_inside}
use Rattle.core_frame.proofs.Finishing.{After, Drops, Ends, drops_after, ends_after}

-- kinds after which the task is where it was
abbrev pub going : EntryKind → Bool
going Claimed = false
going Empty = false
going Held = false
going Yielded = false
going Finished = false
going _ = true

abbrev pub is_end : EntryKind → Bool
is_end Finished = true
is_end _ = false

pub record Stepped {B : Type 0} (f f2 : Frame B) (t : ℕ) (k : EntryKind) : Type 0 where
  pub others : (u : ℕ) → t ≢ u → unfinished (place_of f2 u) ≡ unfinished (place_of f u)
  pub owner : (u w : ℕ) → t ≢ u → place_of f u ≡ OwnedBy w → place_of f2 u ≡ OwnedBy w
  pub stays : going k ≡ true → place_of f2 t ≡ place_of f t
  pub before : unfinished (place_of f t) ≡ true
  pub after : unfinished (place_of f2 t) ≡ not (is_end k)

-- ------------------------------------------------------------ three ways
stepped_same : {B : Type 0} (f f2 : Frame B) (t w : ℕ) (k : EntryKind) → place_of f t ≡ OwnedBy w → is_end k ≡ false → f2.places ≡ f.places → Stepped f f2 t k
stepped_same {B} f f2 t w k at e p = record {
  others = λ u n. ap (λ ps. unfinished (get_or ps u Done)) p;
  owner = λ u v n o. ap (λ ps. get_or ps u Done) p ∙ o;
  stays = λ g. ap (λ ps. get_or ps t Done) p;
  before = ap unfinished at;
  after = ap (λ ps. unfinished (get_or ps t Done)) p ∙ (ap unfinished at ∙ ap not (sym e));
}

stepped_woke : {B : Type 0} (f f2 : Frame B) (t w : ℕ) (k : EntryKind) → place_of f t ≡ OwnedBy w → is_end k ≡ false → Woke f f2 → Stepped f f2 t k
stepped_woke f f2 t w k at e h = record {
  others = λ u n. woke_unfinished f f2 h u;
  owner = λ u v n o. woke_owner f f2 h u v o;
  stays = λ g. woke_owner f f2 h t w at ∙ sym at;
  before = ap unfinished at;
  after = ap unfinished (woke_owner f f2 h t w at) ∙ ap not (sym e);
}

pub stepped_set : {B : Type 0} (f f2 : Frame B) (t : ℕ) (q : Place) (k : EntryKind) → unfinished (place_of f t) ≡ true → going k ≡ false → unfinished q ≡ not (is_end k) → f2.places ≡ set f.places t q → Stepped f f2 t k
stepped_set {B} f f2 t q k before g e p = record {
  others = λ u n. ap unfinished (elsewhere u n);
  owner = λ u v n o. elsewhere u n ∙ o;
  stays = λ h. (let z : true ≡ false = sym h ∙ g in cc);
  before = before;
  after = ap unfinished there ∙ e;
}
  where
    elsewhere : (u : ℕ) → t ≢ u → place_of f2 u ≡ place_of f u
    elsewhere u n = ap (λ ps. get_or ps u Done) p ∙ read_other f.places t u q Done n

    inside : t < length f.places
    inside = not_done_inside f t (λ z. (let y : unfinished Done ≡ true = ap unfinished (sym z) ∙ before in cc))

    there : place_of f2 t ≡ q
    there = ap (λ ps. get_or ps t Done) p ∙ get_or-set_same f.places t q Done inside

stepped_places : {B : Type 0} (f x y : Frame B) (t : ℕ) (k : EntryKind) → Stepped f x t k → y.places ≡ x.places → Stepped f y t k
stepped_places {B} f x y t k s p = record {
  others = λ u n. ap (λ ps. unfinished (get_or ps u Done)) p ∙ s.others u n;
  owner = λ u v n o. ap (λ ps. get_or ps u Done) p ∙ s.owner u v n o;
  stays = λ g. ap (λ ps. get_or ps t Done) p ∙ s.stays g;
  before = s.before;
  after = ap (λ ps. unfinished (get_or ps t Done)) p ∙ s.after;
}

-- ------------------------------------------------------------ by need
stepped_send : {B : Type 0} (p : Shape) (f : Frame B) (t w g c : ℕ) (b : B) (live o : Bool) → IsLawful p f → place_of f t ≡ OwnedBy w → (channel_of f g c).live ≡ live → is_open (gate_of f g).channels ≡ o
    → Stepped f (made_send f t g c b live o).frame t (made_send f t g c b live o).kind
unfolding progress_is move_to put_gate
stepped_send p f t w g c b false o k at el eo = stepped_same f (goes_on f t) t w Dropped at refl refl
stepped_send {B} p f t w g c b true true k at el eo =
    stepped_places f (moved f g (sent (gate_of f g) c b)) (goes_on (moved f g (sent (gate_of f g) c b)) t) t Sent (stepped_woke f (moved f g (sent (gate_of f g) c b)) t w Sent at refl
    (moved_woke f g (sent (gate_of f g) c b) k.frame.located (group_inside p f g c k.frame (channel_inside (λ (ch : Channel B). ch.live) (gate_of f g) c (λ e. cc))) (sent_effect (gate_of f g) c b (k.frame.gates g) el eo).how)) refl
stepped_send p f t w g c b true false k at el eo = stepped_set f _ t (AtGate g) Held (ap unfinished at) refl refl refl

stepped_send_to : {B : Type 0} (p : Shape) (f : Frame B) (t w : ℕ) (o : Option ℕ) (c : ℕ) (b : B) → IsLawful p f → place_of f t ≡ OwnedBy w → Stepped f (made_send_to f t o c b).frame t (made_send_to f t o c b).kind
unfolding progress_is
stepped_send_to p f t w None c b k at = stepped_same f (goes_on f t) t w Dropped at refl refl
stepped_send_to p f t w (Some g) c b k at = stepped_send p f t w g c b (channel_of f g c).live (is_open (gate_of f g).channels) k at refl refl

stepped_recv : {B : Type 0} (p : Shape) (f : Frame B) (t w g c : ℕ) (e n : Bool) → IsLawful p f → place_of f t ≡ OwnedBy w → is_empty (channel_of f g c).batches ≡ e → Stepped f (made_recv f t g c e n).frame t (made_recv f t g c e n).kind
unfolding progress_is move_to put_gate
stepped_recv {B} p f t w g c false n k at ee =
    stepped_places f (moved f g (received (gate_of f g) c)) (goes_on (moved f g (received (gate_of f g) c)) t) t Received (stepped_woke f (moved f g (received (gate_of f g) c)) t w Received at refl
    (moved_woke f g (received (gate_of f g) c) k.frame.located (group_inside p f g c k.frame (channel_inside (λ (ch : Channel B). is_empty ch.batches) (gate_of f g) c (λ z. cc))) (received_effect (gate_of f g) c (k.frame.gates g)).how)) refl
stepped_recv p f t w g c true true k at ee = stepped_same f (goes_on f t) t w Ended at refl refl
stepped_recv p f t w g c true false k at ee = stepped_set f _ t (AtChannel g c) Empty (ap unfinished at) refl refl refl

stepped_grow : {B : Type 0} (f : Frame B) (t w c b : ℕ) (g s : Bool) → place_of f t ≡ OwnedBy w → Stepped f (made_grow f t c b g s).frame t (made_grow f t c b g s).kind
unfolding progress_is with_pool failed
stepped_grow f t w c b true s at = stepped_same f (made_grow f t c b true s).frame t w Granted at refl refl
stepped_grow f t w c b false true at = stepped_same f (made_grow f t c b false true).frame t w Refused at refl refl
stepped_grow f t w c b false false at = stepped_same f (made_grow f t c b false false).frame t w (made_grow f t c b false false).kind at refl refl

-- the calls by which a task ends leave who is owned, and who has ended
pub ends_after_drops : {B : Type 0} (p : Shape) (f : Frame B) (t : ℕ) (o : Option ℕ) → IsShape p → IsFrame p f → (task_at p t).sends ≡ o → After p f (ends o (task_at p t).targets (drops (task_at p t).receives f))
ends_after_drops p f t None sh k s = (drops_after p (task_at p t).receives f k (sh.inside t)).after
ends_after_drops {B} p f t (Some g) sh k s =
    let a : Drops p f (drops (task_at p t).receives f) (task_at p t).receives = drops_after p (task_at p t).receives f k (sh.inside t) in
    let b : Ends p (drops (task_at p t).receives f) (ends_in g (task_at p t).targets (drops (task_at p t).receives f)) g (task_at p t).targets =
    ends_after p g (task_at p t).targets (drops (task_at p t).receives f) a.after.frame (λ c n. sh.targets_inside t g c (rw s (rw (eq-eqb g g refl) n))) in
    record { frame = b.after.frame; places = λ u. b.after.places u ∙ a.after.places u; owner = λ u v e. b.after.owner u v (a.after.owner u v e) }

stepped_finished : {B : Type 0} (p : Shape) (f : Frame B) (t w : ℕ) → IsShape p → IsLawful p f → place_of f t ≡ OwnedBy w → Stepped f (finished p f t) t Finished
unfolding with_pool move_to
stepped_finished {B} p f t w sh k at =
    let f2 : Frame B = ends (task_at p t).sends (task_at p t).targets (drops (task_at p t).receives f) in
    let a : After p f f2 = ends_after_drops p f t (task_at p t).sends sh k.frame refl in
    let s : Stepped f2 (finished p f t) t Finished = stepped_set f2 (finished p f t) t Done Finished (ap unfinished (a.owner t w at)) refl refl refl in
    record {
      others = λ u n. s.others u n ∙ a.places u;
      owner = λ u v n o. s.owner u v n (a.owner u v o);
      stays = λ g. (let z : false ≡ true = g in cc);
      before = ap unfinished at;
      after = s.after;
    }

pub stepped_made : {B : Type 0} (p : Shape) (f : Frame B) (t w : ℕ) (n : Need B) → IsShape p → IsLawful p f → place_of f t ≡ OwnedBy w → IsOwn p t n → Stepped f (made p f t n).frame t (made p f t n).kind
unfolding progress_is with_pool failed
stepped_made p f t w Scan sh k at o = stepped_same f (goes_on f t) t w Scanned at refl refl
stepped_made p f t w (Recv g c) sh k at o = stepped_recv p f t w g c (is_empty (channel_of f g c).batches) (eqb (channel_of f g c).unended 0) k at refl
stepped_made p f t w (Send c b) sh k at o = stepped_send_to p f t w (task_at p t).sends c b k at
stepped_made p f t w (Grow c b) sh k at o = stepped_grow f t w c b (grants f.pool c b) (can_spill f.pool c && not (eqb (held_by f.pool c) 0)) at
stepped_made p f t w (Free c b) sh k at o = stepped_same f (made p f t (Free c b)).frame t w Freed at refl refl
stepped_made p f t w Writes sh k at o = stepped_same f (goes_on f t) t w Wrote at refl refl
stepped_made p f t w Finish sh k at o = stepped_finished p f t w sh k at
stepped_made p f t w (Fail e) sh k at o = stepped_same f (failed f e) t w (Failed e) at refl refl

-- ------------------------------------------------------------ by entry
pub chosen : {A : Type 0} (b : Bool) (x y z : A) → cond b x y ≡ z → ((b ≡ true) × (x ≡ z)) ⊎ ((b ≡ false) × (y ≡ z))
chosen true x y z e = inl (refl, e)
chosen false x y z e = inr (refl, e)

owned_is : (w : ℕ) (q : Place) → is_owned w q ≡ true → q ≡ OwnedBy w
owned_is w (OwnedBy v) e = ap OwnedBy (eqb-true v w e)
owned_is w Woken e = cc
owned_is w (AtGate g) e = cc
owned_is w (AtChannel g c) e = cc
owned_is w Done e = cc

woken_is : (q : Place) → is_woken q ≡ true → q ≡ Woken
woken_is Woken e = refl
woken_is (OwnedBy v) e = cc
woken_is (AtGate g) e = cc
woken_is (AtChannel g c) e = cc
woken_is Done e = cc

left : (a b : Bool) → a && b ≡ true → a ≡ true
left true b e = refl
left false b e = e

failing : (k : EntryKind) → may_fail k ≡ true → (going k ≡ true) × (is_end k ≡ false)
failing (Failed c) e = (refl, refl)
failing Claimed e = cc
failing Scanned e = cc
failing Received e = cc
failing Empty e = cc
failing Ended e = cc
failing Sent e = cc
failing Held e = cc
failing Dropped e = cc
failing Granted e = cc
failing Refused e = cc
failing Freed e = cc
failing Wrote e = cc
failing Yielded e = cc
failing Finished e = cc

yield_is : (k : EntryKind) → is_yielded k ≡ true → k ≡ Yielded
yield_is Yielded e = refl
yield_is Claimed e = cc
yield_is Scanned e = cc
yield_is Received e = cc
yield_is Empty e = cc
yield_is Ended e = cc
yield_is Sent e = cc
yield_is Held e = cc
yield_is Dropped e = cc
yield_is Granted e = cc
yield_is Refused e = cc
yield_is Freed e = cc
yield_is Wrote e = cc
yield_is Finished e = cc
yield_is (Failed c) e = cc

stepped_owner : {B : Type 0} (p : Shape) (f f2 : Frame B) (t w : ℕ) (k : EntryKind) (n : Need B) → IsShape p → IsLawful p f → place_of f t ≡ OwnedBy w → IsOwn p t n → owner_step p f t k n ≡ Some f2 → Stepped f f2 t k
unfolding failed move_to
stepped_owner {B} p f f2 t w k n sh lawful at o e = first (chosen (may_fail k) _ _ _ e)
  where
    here : (x : Frame B) → Stepped f x t k → Some x ≡ Some f2 → Stepped f f2 t k
    here x y z = subst (λ j. Stepped f j t k) (let d : x ≡ f2 = cc in d) y

    third : ((same_kind (made p f t n).kind k ≡ true) × (Some (made p f t n).frame ≡ Some f2)) ⊎ ((same_kind (made p f t n).kind k ≡ false) × (None ≡ Some f2)) → Stepped f f2 t k
    third (inl x) = here (made p f t n).frame (subst (Stepped f (made p f t n).frame t) (kind_is (made p f t n).kind k x.0) (stepped_made p f t w n sh lawful at o)) x.1
    third (inr x) = (let z : None ≡ Some f2 = x.1 in cc)

    second : (((is_yielded k && get_or f.progress t false) ≡ true) × (Some (yielded f t) ≡ Some f2))
        ⊎ (((is_yielded k && get_or f.progress t false) ≡ false) × (cond (same_kind (made p f t n).kind k) (Some (made p f t n).frame) None ≡ Some f2)) → Stepped f f2 t k
    second (inl x) = here (yielded f t) (subst (Stepped f (yielded f t) t) (sym (yield_is k (left (is_yielded k) (get_or f.progress t false) x.0))) (stepped_set f (yielded f t) t Woken Yielded (ap unfinished at) refl refl refl)) x.1
    second (inr x) = third (chosen (same_kind (made p f t n).kind k) _ _ _ x.1)

    first : ((may_fail k ≡ true) × (Some (failed f (cause_of k)) ≡ Some f2))
        ⊎ ((may_fail k ≡ false) × (cond (is_yielded k && get_or f.progress t false) (Some (yielded f t)) (cond (same_kind (made p f t n).kind k) (Some (made p f t n).frame) None) ≡ Some f2)) → Stepped f f2 t k
    first (inl x) = here (failed f (cause_of k)) (stepped_same f (failed f (cause_of k)) t w k at (failing k x.0).1 refl) x.1
    first (inr x) = second (chosen (is_yielded k && get_or f.progress t false) _ _ _ x.1)

stepped_woken : {B : Type 0} (f f2 : Frame B) (t w : ℕ) (k : EntryKind) → claim_step f t w k ≡ Some f2 → Stepped f f2 t k
unfolding move_to progress_is failed
stepped_woken {B} f f2 t w Claimed e = go (chosen (may_claim f t w) _ _ _ e)
  where
    go : ((may_claim f t w ≡ true) × (Some (claimed f t w) ≡ Some f2)) ⊎ ((may_claim f t w ≡ false) × (None ≡ Some f2)) → Stepped f f2 t Claimed
    go (inl x) = subst (λ j. Stepped f j t Claimed) (let y : Some (claimed f t w) ≡ Some f2 = x.1 in let d : claimed f t w ≡ f2 = cc in d)
        (stepped_set f (claimed f t w) t (OwnedBy w) Claimed (ap unfinished (woken_is (place_of f t) (left (is_woken (place_of f t)) (not (owns w f.places)) x.0))) refl refl refl)
    go (inr x) = (let z : None ≡ Some f2 = x.1 in cc)
stepped_woken {B} f f2 t w (Failed NoMemory) e = go (chosen (may_claim f t w) _ _ _ e)
  where
    at_woken : may_claim f t w ≡ true → Stepped f (failed f NoMemory) t (Failed NoMemory)
    at_woken m = record {
      others = λ u n. refl;
      owner = λ u v n o. o;
      stays = λ g. refl;
      before = ap unfinished (woken_is (place_of f t) (left (is_woken (place_of f t)) (not (owns w f.places)) m));
      after = ap unfinished (woken_is (place_of f t) (left (is_woken (place_of f t)) (not (owns w f.places)) m));
    }

    go : ((may_claim f t w ≡ true) × (Some (failed f NoMemory) ≡ Some f2)) ⊎ ((may_claim f t w ≡ false) × (None ≡ Some f2)) → Stepped f f2 t (Failed NoMemory)
    go (inl x) = subst (λ j. Stepped f j t (Failed NoMemory)) (let y : Some (failed f NoMemory) ≡ Some f2 = x.1 in let d : failed f NoMemory ≡ f2 = cc in d) (at_woken x.0)
    go (inr x) = (let z : None ≡ Some f2 = x.1 in cc)
stepped_woken f f2 t w _ e = cc

pub step_places : {B : Type 0} (p : Shape) (f f2 : Frame B) (e : Entry) (n : Need B) → IsShape p → IsLawful p f → IsOwn p e.task n → frame_step p f e n ≡ Some f2 → Stepped f f2 e.task e.kind
step_places {B} p f f2 e n sh lawful o s = first (chosen (is_over f) _ _ _ s)
  where
    second : ((is_owned e.worker (place_of f e.task) ≡ true) × (owner_step p f e.task e.kind n ≡ Some f2)) ⊎ ((is_owned e.worker (place_of f e.task) ≡ false) × (claim_step f e.task e.worker e.kind ≡ Some f2)) → Stepped f f2 e.task e.kind
    second (inl x) = stepped_owner p f f2 e.task e.worker e.kind n sh lawful (owned_is e.worker (place_of f e.task) x.0) o x.1
    second (inr x) = stepped_woken f f2 e.task e.worker e.kind x.1

    first : ((is_over f ≡ true) × (None ≡ Some f2)) ⊎ ((is_over f ≡ false) × (cond (is_owned e.worker (place_of f e.task)) (owner_step p f e.task e.kind n) (claim_step f e.task e.worker e.kind) ≡ Some f2)) → Stepped f f2 e.task e.kind
    first (inl x) = (let z : None ≡ Some f2 = x.1 in cc)
    first (inr x) = second (chosen (is_owned e.worker (place_of f e.task)) _ _ _ x.1)
