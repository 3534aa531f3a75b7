-- A frame that is over comes of a Failed entry, or of a Finished entry of each task.
use Rattle.std.proofs.Common.{ℕ, zero, suc, ◌<◌, ◌≡◌, ◌≢◌, ◌⊎◌, inl, inr, refl, sym, ap, ◌∙◌, subst, eqb, List, [], ◌∷◌, ◌++◌, length, Bool, true, false, ◌&&◌, ◌||◌, not, Option, Some, None, is_some, get_or, arith}
use Rattle.std.proofs.lemmas.Bool.{eq-eqb, or_left, or_right}
use Rattle.run_journal.specs.declared.cause.Cause.{Cause}
use Rattle.run_journal.specs.declared.cause.Cause.TheVariants.{NoMemory}
use Rattle.run_journal.specs.declared.entry.Entry.{Entry}
use Rattle.run_journal.specs.declared.entry.EntryKind.{EntryKind}
use Rattle.run_journal.specs.declared.entry.EntryKind.TheVariants.{Claimed, Finished, Failed}
use Rattle.run_journal.specs.SameKind.{same_kind}
use Rattle.task_shape.specs.Numbers.{without}
use Rattle.task_shape.proofs.Numbers.{same_or_not}
use Rattle.gate_channels.specs.Gate.{Gate, Moved, sent, received, ended, dropped, held, awaited, is_open}
use Rattle.fair_pool.specs.Share.{Pool}
use Rattle.task_shape.specs.Shape.{Shape, IsShape, task_at}
use Rattle.core_frame.specs.declared.place.Place.{Place}
use Rattle.core_frame.specs.declared.place.Place.TheVariants.{Woken, OwnedBy, AtGate, AtChannel, Done}
use Rattle.core_frame.specs.Frame.{Frame, gate_of, channel_of, place_of, unfinished, all_done, is_owned, tabulate, opening}
use Rattle.core_frame.specs.Step.{Need, Scan, Recv, Send, Grow, Free, Writes, Finish, Fail, wake, put_gate, moved, with_pool, move_to, progress_is, goes_on, drops, ends_in, ends, released, finished, made_send, made_send_to, made_recv, made_grow, made, may_fail, is_yielded, claimed, yielded, may_claim, owner_step, claim_step, is_over, frame_step, frame_replay}
use Rattle.core_frame.specs.Good.{AreOwn}
use Rattle.core_frame.specs.Lawful.{IsLawful}
use Rattle.core_frame.proofs.Replays.{lawful_step}
use Rattle.core_frame.proofs.Sound.{lawful_opening}
use Rattle.turn_cell.specs.declared.act.Act.{Act}
use Rattle.turn_cell.specs.Acts.{journal_of}
use Rattle.run_laws.specs.Loans.{is_failed}
use Rattle.run_laws.specs.Others.{entries_of}
use Rattle.run_laws.specs.Kept.{IsRun}
use Rattle.run_frame.proofs.Stepped.{chosen, Stepped, step_places, is_end as frame_end}
use Rattle.run_core.specs.Given.{Given, IsGiven}
use Rattle.run_core.specs.Over.{is_end, some_failed, some_ends, Over}

-- ------------------------------------------------------------ what keeps the failure

moved_failure : {B : Type 0} (f : Frame B) (g : ℕ) (m : Moved B) → (moved f g m).failure ≡ f.failure
unfolding wake put_gate
moved_failure f g m = refl

progress_failure : {B : Type 0} (f : Frame B) (u : ℕ) (b : Bool) → (progress_is f u b).failure ≡ f.failure
unfolding progress_is
progress_failure f u b = refl

move_failure : {B : Type 0} (f : Frame B) (u : ℕ) (q : Place) (queue : List ℕ) → (move_to f u q queue).failure ≡ f.failure
unfolding move_to
move_failure f u q queue = refl

put_failure : {B : Type 0} (f : Frame B) (g : ℕ) (x : Gate B) → (put_gate f g x).failure ≡ f.failure
unfolding put_gate
put_failure f g x = refl

pool_failure : {B : Type 0} (f : Frame B) (x : Pool) → (with_pool f x).failure ≡ f.failure
unfolding with_pool
pool_failure f x = refl

drops_failure : {B : Type 0} (xs : List (ℕ × ℕ)) (f : Frame B) → (drops xs f).failure ≡ f.failure
drops_failure [] f = refl
drops_failure (x ∷ xs) f = drops_failure xs (moved f x.0 (dropped (gate_of f x.0) x.1)) ∙ moved_failure f x.0 (dropped (gate_of f x.0) x.1)

ends_in_failure : {B : Type 0} (g : ℕ) (cs : List ℕ) (f : Frame B) → (ends_in g cs f).failure ≡ f.failure
ends_in_failure g [] f = refl
ends_in_failure g (c ∷ cs) f = ends_in_failure g cs (moved f g (ended (gate_of f g) c)) ∙ moved_failure f g (ended (gate_of f g) c)

ends_failure : {B : Type 0} (o : Option ℕ) (cs : List ℕ) (f : Frame B) → (ends o cs f).failure ≡ f.failure
ends_failure None cs f = refl
ends_failure (Some g) cs f = ends_in_failure g cs f

finished_failure : {B : Type 0} (p : Shape) (f : Frame B) (u : ℕ) → (finished p f u).failure ≡ f.failure
finished_failure p f u =
    let f1 = drops (task_at p u).receives f in
    let f2 = ends (task_at p u).sends (task_at p u).targets f1 in
    let f3 = with_pool f2 (released (task_at p u).consumers f2.pool) in
    move_failure f3 u Done f3.queue ∙ (pool_failure f2 (released (task_at p u).consumers f2.pool) ∙ (ends_failure (task_at p u).sends (task_at p u).targets f1 ∙ drops_failure (task_at p u).receives f))

-- it has the failure of before, or its kind is a failure
abbrev MadeFails : EntryKind → Option Cause → Option Cause → Type 0
MadeFails k a b = (b ≡ a) ⊎ (is_failed k ≡ true)

on_failure : {B : Type 0} (f f2 : Frame B) (u : ℕ) → f2.failure ≡ f.failure → (goes_on f2 u).failure ≡ f.failure
on_failure f f2 u e = progress_failure f2 u true ∙ e

send_failure : {B : Type 0} (u : ℕ) (f : Frame B) (g c : ℕ) (b : B) (live open_ : Bool) → (made_send f u g c b live open_).frame.failure ≡ f.failure
send_failure u f g c b false o = on_failure f f u refl
send_failure u f g c b true true = on_failure f (moved f g (sent (gate_of f g) c b)) u (moved_failure f g (sent (gate_of f g) c b))
send_failure u f g c b true false = move_failure (put_gate f g (held (gate_of f g) u)) u (AtGate g) f.queue ∙ put_failure f g (held (gate_of f g) u)

send_to_failure : {B : Type 0} (u : ℕ) (f : Frame B) (o : Option ℕ) (c : ℕ) (b : B) → (made_send_to f u o c b).frame.failure ≡ f.failure
send_to_failure u f None c b = on_failure f f u refl
send_to_failure u f (Some g) c b = send_failure u f g c b (channel_of f g c).live (is_open (gate_of f g).channels)

recv_failure : {B : Type 0} (u : ℕ) (f : Frame B) (g c : ℕ) (empty over : Bool) → (made_recv f u g c empty over).frame.failure ≡ f.failure
recv_failure u f g c false over = on_failure f (moved f g (received (gate_of f g) c)) u (moved_failure f g (received (gate_of f g) c))
recv_failure u f g c true true = on_failure f f u refl
recv_failure u f g c true false = move_failure (put_gate f g (awaited (gate_of f g) c u)) u (AtChannel g c) f.queue ∙ put_failure f g (awaited (gate_of f g) c u)

grow_failure : {B : Type 0} (u : ℕ) (f : Frame B) (c bytes : ℕ) (granted gives : Bool) → MadeFails (made_grow f u c bytes granted gives).kind f.failure (made_grow f u c bytes granted gives).frame.failure
grow_failure u f c bytes true gives = inl (on_failure f (with_pool f _) u (pool_failure f _))
grow_failure u f c bytes false true = inl (on_failure f f u refl)
grow_failure u f c bytes false false = inr refl

made_failure : {B : Type 0} (p : Shape) (u : ℕ) (f : Frame B) (need : Need B) → MadeFails (made p f u need).kind f.failure (made p f u need).frame.failure
made_failure p u f Scan = inl (on_failure f f u refl)
made_failure p u f (Recv g c) = inl (recv_failure u f g c _ _)
made_failure p u f (Send c b) = inl (send_to_failure u f (task_at p u).sends c b)
made_failure p u f (Grow c bytes) = grow_failure u f c bytes _ _
made_failure p u f (Free c bytes) = inl (on_failure f (with_pool f _) u (pool_failure f _))
made_failure p u f Writes = inl (on_failure f f u refl)
made_failure p u f Finish = inl (finished_failure p f u)
made_failure p u f (Fail cause) = inr refl

-- ------------------------------------------------------------ one step
kind_failure : (j k : EntryKind) → is_failed j ≡ true → same_kind j k ≡ true → is_failed k ≡ true
kind_failure (Failed c) (Failed d) e s = refl
kind_failure (Failed c) _ e s = cc
kind_failure _ k e s = cc

device_failure : (k : EntryKind) → may_fail k ≡ true → is_failed k ≡ true
device_failure (Failed c) e = refl
device_failure _ e = cc

abbrev Tells : {B : Type 0} → Frame B → Frame B → EntryKind → Type 0
Tells f f2 k = (f2.failure ≡ f.failure) ⊎ (is_failed k ≡ true)

named : {B : Type 0} (f x f2 : Frame B) (k : EntryKind) → Tells f x k → Some x ≡ Some f2 → Tells f f2 k
named f x f2 k t e = subst (λ (y : Frame _). Tells f y k) (let z : x ≡ f2 = cc in z) t

owner_tells : {B : Type 0} (p : Shape) (u : ℕ) (f f2 : Frame B) (k : EntryKind) (need : Need B) → owner_step p f u k need ≡ Some f2 → Tells f f2 k
owner_tells p u f f2 k need e = elim (chosen (may_fail k) _ _ _ e) [
  | inl x ↦ inr (device_failure k x.0)
  | inr x ↦ elim (chosen (is_yielded k && get_or f.progress u false) _ _ _ x.1) [
    | inl y ↦ named f (yielded f u) f2 k (inl (move_failure f u Woken (f.queue ++ u ∷ []))) y.1
    | inr y ↦ elim (chosen (same_kind (made p f u need).kind k) _ _ _ y.1) [
      | inl z ↦ named f (made p f u need).frame f2 k (elim (made_failure p u f need) [ inl a ↦ inl a | inr a ↦ inr (kind_failure (made p f u need).kind k a z.0) ]) z.1
      | inr z ↦ (let v : None ≡ Some f2 = z.1 in cc)
    ]
  ]
]

claim_tells : {B : Type 0} (u w : ℕ) (f f2 : Frame B) (k : EntryKind) → claim_step f u w k ≡ Some f2 → Tells f f2 k
claim_tells u w f f2 Claimed e = elim (chosen (may_claim f u w) _ _ _ e) [
  | inl x ↦ named f (claimed f u w) f2 Claimed (inl (progress_failure (move_to f u (OwnedBy w) (without u f.queue)) u false ∙ move_failure f u (OwnedBy w) (without u f.queue))) x.1
  | inr x ↦ (let v : None ≡ Some f2 = x.1 in cc)
]
claim_tells u w f f2 (Failed NoMemory) e = inr refl
claim_tells u w f f2 _ e = cc

step_tells : {B : Type 0} (p : Shape) (f f2 : Frame B) (e : Entry) (need : Need B) → frame_step p f e need ≡ Some f2 → Tells f f2 e.kind
step_tells p f f2 e need s = elim (chosen (is_over f) _ _ _ s) [
  | inl x ↦ (let v : None ≡ Some f2 = x.1 in cc)
  | inr x ↦ elim (chosen (is_owned e.worker (place_of f e.task)) _ _ _ x.1) [
    | inl y ↦ owner_tells p e.task f f2 e.kind need y.1
    | inr y ↦ claim_tells e.task e.worker f f2 e.kind y.1
  ]
]

-- ------------------------------------------------------------ all steps
replay_none : {B : Type 0} (p : Shape) (ss : List (Entry × Need B)) → frame_replay p None ss ≡ None
replay_none p [] = refl
replay_none p (s ∷ ss) = replay_none p ss

failure_told : {B : Type 0} (p : Shape) (ss : List (Entry × Need B)) (f f2 : Frame B) → frame_replay p (Some f) ss ≡ Some f2 → (f2.failure ≡ f.failure) ⊎ (some_failed (entries_of ss) ≡ true)
failure_told {B} p [] f f2 d = inl (ap (λ (x : Frame B). x.failure) (let z : f2 ≡ f = cc in z))
failure_told {B} p (s ∷ ss) f f2 d = go (λ f1. failure_told p ss f1 f2) (frame_step p f s.0 s.1) refl d
  where
    go : ((f1 : Frame B) → frame_replay p (Some f1) ss ≡ Some f2 → (f2.failure ≡ f1.failure) ⊎ (some_failed (entries_of ss) ≡ true)) → (o : Option (Frame B)) → frame_step p f s.0 s.1 ≡ o → frame_replay p o ss ≡ Some f2
        → (f2.failure ≡ f.failure) ⊎ (some_failed (entries_of (s ∷ ss)) ≡ true)
    go rest None eo z = (let v : None ≡ Some f2 = sym (replay_none p ss) ∙ z in cc)
    go rest (Some f1) eo z = elim (step_tells p f f1 s.0 s.1 eo) [
      | inr k ↦ inr (or_left (is_failed (s.0).kind) (some_failed (entries_of ss)) k)
      | inl a ↦ elim (rest f1 z) [ inl b ↦ inl (b ∙ a) | inr b ↦ inr (or_right (is_failed (s.0).kind) (some_failed (entries_of ss)) b) ]
    ]

-- a task ends by its entry alone
ended_by : {B : Type 0} (f f1 : Frame B) (t : ℕ) (e : Entry) → Stepped f f1 e.task e.kind → unfinished (place_of f t) ≡ true → unfinished (place_of f1 t) ≡ false → eqb e.task t && is_end e.kind ≡ true
ended_by f f1 t e s u g = go (same_or_not e.task t)
  where
    end : (k : EntryKind) → false ≡ not (frame_end k) → is_end k ≡ true
    end Finished z = refl
    end _ z = cc

    go : (e.task ≡ t) ⊎ (e.task ≢ t) → eqb e.task t && is_end e.kind ≡ true
    go (inl same) = rw (eq-eqb e.task t same) (end e.kind (sym g ∙ (ap (λ j. unfinished (place_of f1 j)) (sym same) ∙ s.after)))
    go (inr n) = (let z : false ≡ true = sym g ∙ (s.others t n ∙ u) in cc)

done_told : {B : Type 0} (p : Shape) → IsShape p → (t : ℕ) (ss : List (Entry × Need B)) (f f2 : Frame B) → IsLawful p f → AreOwn p ss → frame_replay p (Some f) ss ≡ Some f2 → unfinished (place_of f t) ≡ true → unfinished (place_of f2 t) ≡ false
    → some_ends t (entries_of ss) ≡ true
done_told {B} p sh t [] f f2 lawful own d u g = let e : f ≡ f2 = cc in let z : true ≡ false = sym u ∙ (ap (λ (x : Frame B). unfinished (place_of x t)) e ∙ g) in cc
done_told {B} p sh t (s ∷ ss) f f2 lawful own d u g = go (λ f1 l. done_told p sh t ss f1 f2 l own.1) (frame_step p f s.0 s.1) refl d
  where
    here : Bool
    here = eqb (s.0).task t && is_end (s.0).kind

    go : ((f1 : Frame B) → IsLawful p f1 → frame_replay p (Some f1) ss ≡ Some f2 → unfinished (place_of f1 t) ≡ true → unfinished (place_of f2 t) ≡ false → some_ends t (entries_of ss) ≡ true) → (o : Option (Frame B)) → frame_step p f s.0 s.1 ≡ o → frame_replay p o ss ≡ Some f2
        → some_ends t (entries_of (s ∷ ss)) ≡ true
    go rest None eo z = (let v : None ≡ Some f2 = sym (replay_none p ss) ∙ z in cc)
    go rest (Some f1) eo z = which (unfinished (place_of f1 t)) refl
      where
        which : (b : Bool) → unfinished (place_of f1 t) ≡ b → here || some_ends t (entries_of ss) ≡ true
        which true e = or_right here (some_ends t (entries_of ss)) (rest f1 (lawful_step p f f1 s.0 s.1 sh lawful own.0 eo) z e g)
        which false e = or_left here (some_ends t (entries_of ss)) (ended_by f f1 t s.0 (step_places p f f1 s.0 s.1 sh lawful own.0 eo) u e)

-- ------------------------------------------------------------ a frame that is over
all_ended : (ps : List Place) (t : ℕ) → all_done ps ≡ true → unfinished (get_or ps t Done) ≡ false
all_ended [] t e = refl
all_ended (q ∷ ps) zero e = first (unfinished q) (all_done ps) e
  where
    first : (a b : Bool) → not a && b ≡ true → a ≡ false
    first true b z = cc
    first false b z = refl
all_ended (q ∷ ps) (suc t) e = all_ended ps t (second (not (unfinished q)) (all_done ps) e)
  where
    second : (a b : Bool) → a && b ≡ true → b ≡ true
    second true b z = z
    second false b z = cc

woken_at : (n t : ℕ) → t < n → unfinished (get_or (tabulate n (λ _. Woken)) t Done) ≡ true
woken_at zero t h = absurd (omega (arith, h))
woken_at (suc n) zero h = refl
woken_at (suc n) (suc t) h = woken_at n t (omega (arith, h))

which_one : (a b : Bool) → a || b ≡ true → (a ≡ true) ⊎ (b ≡ true)
which_one true b e = inl refl
which_one false b e = inr e

none_not : (c : Option Cause) → c ≡ None → is_some c ≡ true → ⊥
none_not None e s = cc
none_not (Some c) e s = cc

pub over_told : {B : Type 0} (o : Given) (acts : List Act) (f : Frame B) → IsGiven o → IsRun o.shape o.limit acts f → is_over f ≡ true → Over o (journal_of acts)
over_told o acts f given k e = elim (which_one (all_done f.places) (is_some f.failure) e) [
  | inl d ↦ inr (λ t h. ap (some_ends t) (sym k.entries)
      ∙ done_told o.shape given.shape t k.steps (opening o.shape o.limit) f (lawful_opening o.shape o.limit given.shape) k.own k.leads (woken_at (length o.shape.tasks) t h) (all_ended f.places t d))
  | inr s ↦ elim (failure_told o.shape k.steps (opening o.shape o.limit) f k.leads) [
    | inl z ↦ absurd (none_not f.failure z s)
    | inr z ↦ inl (ap some_failed (sym k.entries) ∙ z)
  ]
]
