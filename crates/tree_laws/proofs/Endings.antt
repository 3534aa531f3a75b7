-- Who is finished after a step: whoever was, and the task whose need was to finish.
use Rattle.std.proofs.Common.{ℕ, zero, suc, ◌+◌, ◌<◌, ◌≡◌, ◌≢◌, ◌⊎◌, inl, inr, refl, sym, ap, ◌∙◌, subst, eqb, cond, List, [], ◌∷◌, length, get_or, set, Bool, true, false, ◌&&◌, not, Option, Some, None, arith}
use Rattle.std.proofs.Math.ListN.{get_or-eq_default}
use Rattle.run_journal.specs.declared.cause.Cause.{Cause}
use Rattle.gate_channels.specs.Gate.{Moved, is_empty, is_open, sent, received, ended, dropped}
use Rattle.task_shape.proofs.Numbers.{same_or_not, lt_or_le}
use Rattle.fair_pool.specs.Share.{grants, can_spill, held_by}
use Rattle.task_shape.specs.Shape.{Shape, no_task, task_at, has, is_group, sends_at, count_below}
use Rattle.core_frame.specs.declared.place.Place.{Place}
use Rattle.core_frame.specs.declared.place.Place.TheVariants.{Woken, OwnedBy, AtGate, AtChannel, Done}
use Rattle.core_frame.specs.Frame.{Frame, place_of, gate_of, channel_of, unfinished}
use Rattle.core_frame.specs.Step.{Need, Scan, Recv, Send, Grow, Free, Writes, Finish, Fail, wake_all, wake, put_gate, moved, with_pool, move_to, progress_is, failed, claimed, yielded, drops, ends_in, ends, finished, made, made_send, made_send_to, made_recv, made_grow}
use Rattle.core_frame.specs.Lawful.{IsLawful}
use Rattle.core_frame.proofs.Lists.{read_other}
use Rattle.history_laws.specs.Histories.{Reply, reply_of}
use Rattle.history_laws.proofs.Ways.{Way, fails, yields, claims, makes}

pub set_done : (ps : List Place) (t : ℕ) (q : Place) (u : ℕ) → q ≢ Done → get_or (set ps t q) u Done ≡ Done → get_or ps u Done ≡ Done
set_done [] t q u n e = e
set_done (p ∷ ps) zero q zero n e = absurd (n e)
set_done (p ∷ ps) zero q (suc u) n e = e
set_done (p ∷ ps) (suc t) q zero n e = e
set_done (p ∷ ps) (suc t) q (suc u) n e = set_done ps t q u n e

wake_done : (ts : List ℕ) (ps : List Place) (u : ℕ) → get_or (wake_all ts ps) u Done ≡ Done → get_or ps u Done ≡ Done
wake_done [] ps u e = e
wake_done (t ∷ ts) ps u e = set_done ps t Woken u (λ z. cc) (wake_done ts (set ps t Woken) u e)

-- whoever is finished was finished before
abbrev pub WasDone : {B : Type 0} → Frame B → Frame B → Type 0
WasDone f f2 = (u : ℕ) → place_of f2 u ≡ Done → place_of f u ≡ Done

moved_was : {B : Type 0} (f : Frame B) (g : ℕ) (m : Moved B) → WasDone f (moved f g m)
unfolding wake put_gate
moved_was f g m u e = wake_done m.woken f.places u e

drops_was : {B : Type 0} (xs : List (ℕ × ℕ)) (f : Frame B) → WasDone f (drops xs f)
drops_was [] f u e = e
drops_was (x ∷ xs) f u e = moved_was f x.0 (dropped (gate_of f x.0) x.1) u (drops_was xs (moved f x.0 (dropped (gate_of f x.0) x.1)) u e)

ends_in_was : {B : Type 0} (g : ℕ) (cs : List ℕ) (f : Frame B) → WasDone f (ends_in g cs f)
ends_in_was g [] f u e = e
ends_in_was g (c ∷ cs) f u e = moved_was f g (ended (gate_of f g) c) u (ends_in_was g cs (moved f g (ended (gate_of f g) c)) u e)

ends_was : {B : Type 0} (o : Option ℕ) (cs : List ℕ) (f : Frame B) → WasDone f (ends o cs f)
ends_was None cs f u e = e
ends_was (Some g) cs f u e = ends_in_was g cs f u e

finished_was : {B : Type 0} (p : Shape) (f : Frame B) (t u : ℕ) → t ≢ u → place_of (finished p f t) u ≡ Done → place_of f u ≡ Done
unfolding with_pool move_to
finished_was {B} p f t u n e = drops_was (task_at p t).receives f u (ends_was (task_at p t).sends (task_at p t).targets (drops (task_at p t).receives f) u (sym (read_other (ends (task_at p t).sends (task_at p t).targets (drops (task_at p t).receives f)).places t u Done Done n) ∙ e))

send_was : {B : Type 0} (f : Frame B) (t g c : ℕ) (b : B) (live o : Bool) → WasDone f (made_send f t g c b live o).frame
unfolding progress_is move_to put_gate
send_was f t g c b false o u e = e
send_was f t g c b true true u e = moved_was f g (sent (gate_of f g) c b) u e
send_was f t g c b true false u e = set_done f.places t (AtGate g) u (λ z. cc) e

send_to_was : {B : Type 0} (f : Frame B) (t : ℕ) (o : Option ℕ) (c : ℕ) (b : B) → WasDone f (made_send_to f t o c b).frame
unfolding progress_is
send_to_was f t None c b u e = e
send_to_was f t (Some g) c b u e = send_was f t g c b (channel_of f g c).live (is_open (gate_of f g).channels) u e

recv_was : {B : Type 0} (f : Frame B) (t g c : ℕ) (a b : Bool) → WasDone f (made_recv f t g c a b).frame
unfolding progress_is move_to put_gate
recv_was f t g c false b u e = moved_was f g (received (gate_of f g) c) u e
recv_was f t g c true true u e = e
recv_was f t g c true false u e = set_done f.places t (AtChannel g c) u (λ z. cc) e

grow_was : {B : Type 0} (f : Frame B) (t c b : ℕ) (g s : Bool) → WasDone f (made_grow f t c b g s).frame
unfolding progress_is with_pool failed
grow_was f t c b true s u e = e
grow_was f t c b false true u e = e
grow_was f t c b false false u e = e

-- only a need Finish finishes, and only its own task
pub made_was : {B : Type 0} (p : Shape) (f : Frame B) (t : ℕ) (n : Need B) (u : ℕ) → place_of (made p f t n).frame u ≡ Done → (place_of f u ≡ Done) ⊎ ((t ≡ u) × (n ≡ Finish))
unfolding progress_is with_pool failed
made_was p f t Scan u e = inl e
made_was p f t (Recv g c) u e = inl (recv_was f t g c (is_empty (channel_of f g c).batches) (eqb (channel_of f g c).unended 0) u e)
made_was p f t (Send c b) u e = inl (send_to_was f t (task_at p t).sends c b u e)
made_was p f t (Grow c b) u e = inl (grow_was f t c b (grants f.pool c b) (can_spill f.pool c && not (eqb (held_by f.pool c) 0)) u e)
made_was p f t (Free c b) u e = inl e
made_was p f t Writes u e = inl e
made_was p f t Finish u e = elim (same_or_not t u) [ inl s ↦ inr (s, refl) | inr m ↦ inl (finished_was p f t u m e) ]
made_was p f t (Fail y) u e = inl e

-- no sender goes on where the count is 0
pub none_goes : (n : ℕ) (P : ℕ → Bool) → count_below n P ≡ 0 → (u : ℕ) → u < n → P u ≡ false
none_goes zero P e u h = absurd (omega arith)
none_goes (suc n) P e u h = elim (same_or_not u n) [
  | inl s ↦ subst (λ j. P j ≡ false) (sym s) (first (P n) e)
  | inr m ↦ none_goes n P (rest (P n) e) u (omega (arith, h, m))
]
  where
    first : (b : Bool) → cond b 1 0 + count_below n P ≡ 0 → b ≡ false
    first true z = absurd (omega (arith, z))
    first false z = refl

    rest : (b : Bool) → cond b 1 0 + count_below n P ≡ 0 → count_below n P ≡ 0
    rest true z = absurd (omega (arith, z))
    rest false z = omega (arith, z)

failed_was : {B : Type 0} (f : Frame B) (e : Cause) → WasDone f (failed f e)
unfolding failed
failed_was f e u z = z

yielded_was : {B : Type 0} (f : Frame B) (t : ℕ) → WasDone f (yielded f t)
unfolding move_to
yielded_was f t u z = set_done f.places t Woken u (λ y. cc) z

claimed_was : {B : Type 0} (f : Frame B) (t w : ℕ) → WasDone f (claimed f t w)
unfolding move_to progress_is
claimed_was f t w u z = set_done f.places t (OwnedBy w) u (λ y. cc) z

pub way_was : {B : Type 0} (p : Shape) (f : Frame B) (t w : ℕ) (n : Need B) (f2 : Frame B) (o : Option (Reply B)) → Way p f t w n f2 o → (u : ℕ) → place_of f2 u ≡ Done → (place_of f u ≡ Done) ⊎ ((t ≡ u) × (n ≡ Finish) × (o ≡ None))
way_was p f t w n f2 o (fails cause x) u e = inl (failed_was f cause u e)
way_was p f t w n f2 o (yields at) u e = inl (yielded_was f t u e)
way_was p f t w n f2 o (claims at) u e = inl (claimed_was f t w u e)
way_was p f t w n f2 o (makes at) u e = elim (made_was p f t n u e) [ inl a ↦ inl a | inr a ↦ inr (a.0, a.1, ap (λ m. reply_of p f t (made p f t m).kind m) a.1) ]

-- ------------------------------------------------------------ where no sender goes on, each is finished

done_is : (q : Place) → unfinished q ≡ false → q ≡ Done
done_is Woken e = cc
done_is (OwnedBy w) e = cc
done_is (AtGate g) e = cc
done_is (AtChannel g c) e = cc
done_is Done e = refl

pub sends_inside : (p : Shape) (u g c : ℕ) → sends_at p u g c ≡ true → u < length p.tasks
sends_inside p u g c e = elim (lt_or_le u (length p.tasks)) [
  | inl h ↦ h
  | inr h ↦ (let z : sends_at p u g c ≡ false = ap (λ x. is_group x.sends g && has x.targets c) (get_or-eq_default p.tasks no_task h) in let y : true ≡ false = sym e ∙ z in cc)
]

pub all_finished : {B : Type 0} (p : Shape) (f : Frame B) (g c : ℕ) → IsLawful p f → (channel_of f g c).unended ≡ 0 → (u : ℕ) → sends_at p u g c ≡ true → place_of f u ≡ Done
all_finished p f g c k e u s = done_is (place_of f u) (rest (sends_at p u g c) s (none_goes (length p.tasks) (λ v. sends_at p v g c && unfinished (place_of f v)) (sym (k.counted.unended g c) ∙ e) u (sends_inside p u g c s)))
  where
    rest : (a : Bool) → a ≡ true → a && unfinished (place_of f u) ≡ false → unfinished (place_of f u) ≡ false
    rest true _ z = z
    rest false y z = cc
