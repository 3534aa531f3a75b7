-- The calls by which a task ends, one by one.
use Rattle.std.proofs.Common.{ℕ, zero, suc, ◌+◌, ◌-◌, ◌<◌, ◌≤◌, ◌≡◌, ◌≢◌, ◌⊎◌, inl, inr, refl, sym, ap, ◌∙◌, subst, List, [], ◌∷◌, ◌++◌, length, get_or, set, map, drop, eqb, Bool, true, false, ◌&&◌, ◌||◌, Option, Some, None, arith, add-one}
use Rattle.std.proofs.lemmas.Bool.{eq-eqb}
use Rattle.std.proofs.lemmas.List.{map-set, length-map}
use Rattle.std.proofs.Math.ListN.{length-set}
use Rattle.run_journal.specs.declared.cause.Cause.{Cause}
use Rattle.gate_channels.specs.Gate.{Gate, Moved, no_gate, channel_at, one_of, ended, dropped}
use Rattle.gate_channels.specs.Queue.{Ready}
use Rattle.task_shape.specs.Numbers.{one, count}
use Rattle.gate_channels.specs.Group.{Grouped, WaitApart, KeepsSize}
use Rattle.gate_channels.specs.Answers.{Moves}
use Rattle.task_shape.proofs.Numbers.{one_same, same_or_not}
use Rattle.fair_pool.specs.Share.{Pool}
use Rattle.task_shape.specs.Shape.{Shape, names, has, width}
use Rattle.core_frame.specs.Frame.{Frame, place_of, gate_of, channel_of}
use Rattle.core_frame.specs.declared.place.Place.{Place}
use Rattle.core_frame.specs.declared.place.Place.TheVariants.{Woken, AtGate, AtChannel}
use Rattle.core_frame.specs.Step.{wake_all, moved, wake, put_gate, drops, ends_in}
use Rattle.core_frame.specs.Lawful.{IsFrame}
use Rattle.core_frame.proofs.Gates.{Effect, dropped_effect, ended_effect, ended_other, ended_less}
use Rattle.core_frame.proofs.Moves.{listed}
use Rattle.core_frame.proofs.Places.{is_at_no}
use Rattle.core_frame.proofs.Steps.{moved_frame}
use Rattle.run_frame.specs.Running.{frame_of}
use Rattle.run_frame.specs.Leaving.{bare, Stands, EndsSenders}
use Rattle.run_frame.proofs.Claims.{wake_all_append}
use Rattle.run_frame.proofs.Serves.{frame_is, map_read, all_read, all_set, width_inside}

-- ------------------------------------------------------------ lists
pub names_at : (xs : List (ℕ × ℕ)) (i : ℕ) (d : ℕ × ℕ) → i < length xs → names xs (get_or xs i d).0 (get_or xs i d).1 ≡ true
names_at [] i d h = absurd (omega arith)
names_at (x ∷ xs) zero d h = rw (eq-eqb x.0 x.0 refl, eq-eqb x.1 x.1 refl) refl
names_at (x ∷ xs) (suc i) d h = second (eqb x.0 (get_or xs i d).0 && eqb x.1 (get_or xs i d).1) (names xs (get_or xs i d).0 (get_or xs i d).1) (names_at xs i d (omega arith))
  where
    second : (a b : Bool) → b ≡ true → a || b ≡ true
    second true b e = refl
    second false b e = e

pub drop_at : {A : Type 0} (xs : List A) (i : ℕ) (d : A) → i < length xs → drop i xs ≡ get_or xs i d ∷ drop (i + 1) xs
drop_at {A} xs i d h = rw add-one (at xs i h)
  where
    at : (xs : List A) (i : ℕ) → i < length xs → drop i xs ≡ get_or xs i d ∷ drop (suc i) xs
    at [] i h = absurd (omega arith)
    at (x ∷ xs) zero h = refl
    at (x ∷ xs) (suc i) h = at xs i (omega arith)

pub has_first : (c : ℕ) (cs : List ℕ) → has (c ∷ cs) c ≡ true
has_first c cs = rw (eq-eqb c c refl) refl

pub has_more : (x c : ℕ) (cs : List ℕ) → has cs c ≡ true → has (x ∷ cs) c ≡ true
has_more x c cs e = second (eqb x c) (has cs c) e
  where
    second : (a b : Bool) → b ≡ true → a || b ≡ true
    second true b e = refl
    second false b e = e

-- ------------------------------------------------------------ one call of a group
module _ {B : Type 0} (p : Shape) (ps : List Place) (gs : List (Grouped B)) (x x2 : Grouped B) (g c : ℕ) (v v2 : Ready) (call : Gate B → Moved B)
    (k : Stands p ps gs v) (wide : c < width p g) (is : x ≡ get_or gs g x) where
  abbrev f : Frame B
  f = bare gs v.tasks ps

  fits : (g < length gs) × ((x : Grouped B) → x ≡ get_or gs g x → c < length x.gate.channels)
  fits = width_inside p gs g c f refl k.frame wide

  pub call_group : g < length gs
  call_group = fits.0

  pub call_channel : c < length x.gate.channels
  call_channel = fits.1 x is

  here : get_or (map (λ y. y.gate) gs) g no_gate ≡ x.gate
  here = map_read gs g x call_group is

  room_here : x.room ≡ length ps
  room_here = all_read (length ps) gs g x k.rooms call_group is

  not_woken : (t : ℕ) (q : Place) → Woken ≢ q → q ≡ place_of f t → count t v.tasks ≡ 0
  not_woken t q n e = k.frame.located.each Woken refl t ∙ is_at_no Woken (place_of f t) (λ z. n (z ∙ sym e))

  at_channel : (d t : ℕ) → (channel_at x.gate d).waiting ≡ Some t → AtChannel g d ≡ place_of f t
  at_channel d t e = listed f (AtChannel g d) t k.frame.located refl
      (let a : count t (one_of (channel_of f g d).waiting) ≡ count t (one_of (Some t)) = ap (λ (y : Gate B). count t (one_of (channel_at y d).waiting)) here ∙ ap (λ o. count t (one_of o)) e in
      let o : one t t ≡ 1 = one_same t in omega arith)

  pub call_apart : WaitApart x v
  call_apart = record {
    gate = λ t h. not_woken t (AtGate g) (λ e. cc) (listed f (AtGate g) t k.frame.located refl (subst (λ (y : Gate B). 0 < count t y.queue) (sym here) h));
    channels = λ d t e. not_woken t (AtChannel g d) (λ z. cc) (at_channel d t e);
    room = (let r : x.room ≡ length ps = room_here in let q : v.room ≡ length ps = k.queue in omega arith);
  }

  pub call_frame : Moves (call x.gate) x2.gate v.tasks v2.tasks → (pool : Pool) (places : List Place) (progress : List Bool) (failure : Option Cause)
      → ◌≡◌ {A = Frame B} (frame_of (set gs g x2) pool v2.tasks places progress failure)
      (moved (frame_of gs pool v.tasks places progress failure) g (call (get_or (map (λ y. y.gate) gs) g no_gate)))
  unfolding wake put_gate
  call_frame m pool places progress failure =
      frame_is pool failure (map (λ y. y.gate) (set gs g x2)) _ v2.tasks _ (wake_all v2.tasks places) _ progress progress
      (map-set (λ (y : Grouped B). y.gate) gs g x2 ∙ ap (set (map (λ (y : Grouped B). y.gate) gs) g) (m.gate ∙ ap (λ (y : Gate B). (call y).gate) (sym here)))
      (m.woken ∙ ap (λ (y : Gate B). v.tasks ++ (call y).woken) (sym here))
      (ap (λ q. wake_all q places) m.woken ∙ (wake_all_append v.tasks (call x.gate).woken places ∙ ap (λ (y : Gate B). wake_all (call y).woken (wake_all v.tasks places)) (sym here)))
      refl

  gates_inside : g < length f.gates
  gates_inside = rw length-map call_group

  pub call_stands : Effect (gate_of f g) (call (gate_of f g)) → Moves (call x.gate) x2.gate v.tasks v2.tasks → KeepsSize x x2 v v2 → Stands p ps (set gs g x2) v2
  call_stands e m size = record {
    frame = subst (IsFrame {B = B} p) (sym (call_frame m (record { limit = 0; spillable = []; held = [] }) ps [] None)) (moved_frame p f g (call (gate_of f g)) k.frame gates_inside e);
    queue = size.queue_room ∙ k.queue;
    rooms = all_set (length ps) gs g x2 k.rooms (size.room ∙ room_here);
  }

  pub call_rooms : KeepsSize x x2 v v2 → map (λ y. y.room) (set gs g x2) ≡ map (λ y. y.room) gs
  call_rooms size = same_rooms gs g x2 (size.room ∙ ap (λ (y : Grouped B). y.room) is) call_group
    where
      same_rooms : (ys : List (Grouped B)) (i : ℕ) (y : Grouped B) → y.room ≡ (get_or ys i x).room → i < length ys → map (λ z. z.room) (set ys i y) ≡ map (λ z. z.room) ys
      same_rooms [] i y e h = refl
      same_rooms (z ∷ ys) zero y e h = ap (λ n. n ∷ map (λ w. w.room) ys) e
      same_rooms (z ∷ ys) (suc i) y e h = ap (λ ns. z.room ∷ ns) (same_rooms ys i y e (omega arith))

  pub ends_effect : Effect (gate_of f g) (ended (gate_of f g) c)
  ends_effect = ended_effect (gate_of f g) c (k.frame.gates g) (subst (λ (y : Gate B). c < length y.channels) (sym here) call_channel)

  pub drops_effect : Effect (gate_of f g) (dropped (gate_of f g) c)
  drops_effect = dropped_effect (gate_of f g) c (k.frame.gates g)

-- ------------------------------------------------------------ drops, one by one
pub drops_step : {B : Type 0} (xs : List (ℕ × ℕ)) (i : ℕ) (d : ℕ × ℕ) (f : Frame B) → i < length xs
    → drops (drop i xs) f ≡ drops (drop (i + 1) xs) (moved f (get_or xs i d).0 (dropped (gate_of f (get_or xs i d).0) (get_or xs i d).1))
drops_step {B} xs i d f h = ap (λ ys. drops ys f) (drop_at xs i d h)

pub ends_step : {B : Type 0} (g : ℕ) (xs : List ℕ) (i : ℕ) (f : Frame B) → i < length xs
    → ends_in g (drop i xs) f ≡ ends_in g (drop (i + 1) xs) (moved f g (ended (gate_of f g) (get_or xs i 0)))
ends_step {B} g xs i f h = ap (λ ys. ends_in g ys f) (drop_at xs i 0 h)

-- ------------------------------------------------------------ ends, one by one
-- the next one to end is a channel of the group with an unended sender
pub next_inside : {B : Type 0} (gs : List (Grouped B)) (v : Ready) (g i : ℕ) (ts : List ℕ) → i < length ts → (e : EndsSenders gs v g (drop i ts)) → get_or ts i 0 < width e.shape g
next_inside gs v g i ts h e = e.inside (get_or ts i 0) (rw (drop_at ts i 0 h) (has_first (get_or ts i 0) (drop (i + 1) ts)))

pub next_unended : {B : Type 0} (gs : List (Grouped B)) (x : Grouped B) (v : Ready) (g i : ℕ) (ts : List ℕ) → i < length ts → EndsSenders gs v g (drop i ts) → x ≡ get_or gs g x → 0 < (channel_at x.gate (get_or ts i 0)).unended
next_unended {B} gs x v g i ts h e is =
    let group : g < length gs = call_group e.shape e.places gs x x g (get_or ts i 0) v v (λ y. ended y 0) e.stands (next_inside gs v g i ts h e) is in
    let a : count (get_or ts i 0) (drop i ts) ≤ (channel_of (bare gs v.tasks e.places) g (get_or ts i 0)).unended = e.enough (get_or ts i 0) (rw (drop_at ts i 0 h) (has_first (get_or ts i 0) (drop (i + 1) ts))) in
    let b : count (get_or ts i 0) (drop i ts) ≡ one (get_or ts i 0) (get_or ts i 0) + count (get_or ts i 0) (drop (i + 1) ts) = ap (count (get_or ts i 0)) (drop_at ts i 0 h) in
    let o : one (get_or ts i 0) (get_or ts i 0) ≡ 1 = one_same (get_or ts i 0) in
    let d : (channel_of (bare gs v.tasks e.places) g (get_or ts i 0)).unended ≡ (channel_at x.gate (get_or ts i 0)).unended = ap (λ (y : Gate B). (channel_at y (get_or ts i 0)).unended) (map_read gs g x group is) in
    omega arith

pub ends_rest : {B : Type 0} (gs : List (Grouped B)) (x x2 : Grouped B) (v v2 : Ready) (g i : ℕ) (ts : List ℕ) → i < length ts → EndsSenders gs v g (drop i ts) → x ≡ get_or gs g x
    → Moves (ended x.gate (get_or ts i 0)) x2.gate v.tasks v2.tasks → KeepsSize x x2 v v2 → EndsSenders (set gs g x2) v2 g (drop (i + 1) ts)
ends_rest {B} gs x x2 v v2 g i ts h e is m size = record {
  shape = e.shape;
  places = e.places;
  stands = call_stands e.shape e.places gs x x2 g c v v2 (λ y. ended y c) e.stands wide is (ends_effect e.shape e.places gs x x2 g c v v2 (λ y. ended y c) e.stands wide is) m size;
  inside = λ d y. e.inside d (more d y);
  enough = λ d y. enough d (e.enough d (more d y)) (same_or_not c d);
}
  where
    c : ℕ
    c = get_or ts i 0

    wide : c < width e.shape g
    wide = next_inside gs v g i ts h e

    group : g < length gs
    group = call_group e.shape e.places gs x x2 g c v v2 (λ y. ended y c) e.stands wide is

    inside : c < length x.gate.channels
    inside = call_channel e.shape e.places gs x x2 g c v v2 (λ y. ended y c) e.stands wide is

    more : (d : ℕ) → has (drop (i + 1) ts) d ≡ true → has (drop i ts) d ≡ true
    more d y = rw (drop_at ts i 0 h) (has_more c d (drop (i + 1) ts) y)

    counts : (d : ℕ) → count d (drop i ts) ≡ one c d + count d (drop (i + 1) ts)
    counts d = ap (count d) (drop_at ts i 0 h)

    old : (d : ℕ) → (channel_of (bare gs v.tasks e.places) g d).unended ≡ (channel_at x.gate d).unended
    old d = ap (λ (y : Gate B). (channel_at y d).unended) (map_read gs g x group is)

    now : (d : ℕ) → (channel_of (bare (set gs g x2) v2.tasks e.places) g d).unended ≡ (channel_at (ended x.gate c).gate d).unended
    now d = ap (λ (y : Gate B). (channel_at y d).unended) (map_read (set gs g x2) g x2 (rw length-set group) (same_set gs g x2 group) ∙ m.gate)
      where
        same_set : (ys : List (Grouped B)) (j : ℕ) (y : Grouped B) → j < length ys → y ≡ get_or (set ys j y) j y
        same_set [] j y l = refl
        same_set (z ∷ ys) zero y l = refl
        same_set (z ∷ ys) (suc j) y l = same_set ys j y (omega arith)

    enough : (d : ℕ) → count d (drop i ts) ≤ (channel_of (bare gs v.tasks e.places) g d).unended → (c ≡ d) ⊎ (c ≢ d) → count d (drop (i + 1) ts) ≤ (channel_of (bare (set gs g x2) v2.tasks e.places) g d).unended
    enough d a (inl s) =
        let less : (channel_at (ended x.gate c).gate d).unended ≡ (channel_at x.gate d).unended - 1 = subst (λ j. (channel_at (ended x.gate c).gate j).unended ≡ (channel_at x.gate j).unended - 1) s (ended_less x.gate c inside) in
        let o : one c d ≡ 1 = subst (λ j. one c j ≡ 1) s (one_same c) in
        let y : count d (drop i ts) ≡ one c d + count d (drop (i + 1) ts) = counts d in
        let z : (channel_of (bare gs v.tasks e.places) g d).unended ≡ (channel_at x.gate d).unended = old d in
        let w : (channel_of (bare (set gs g x2) v2.tasks e.places) g d).unended ≡ (channel_at (ended x.gate c).gate d).unended = now d in
        omega arith
    enough d a (inr n) =
        let same : (channel_at (ended x.gate c).gate d).unended ≡ (channel_at x.gate d).unended = ended_other x.gate c d n in
        let y : count d (drop i ts) ≡ one c d + count d (drop (i + 1) ts) = counts d in
        let z : (channel_of (bare gs v.tasks e.places) g d).unended ≡ (channel_at x.gate d).unended = old d in
        let w : (channel_of (bare (set gs g x2) v2.tasks e.places) g d).unended ≡ (channel_at (ended x.gate c).gate d).unended = now d in
        omega arith
