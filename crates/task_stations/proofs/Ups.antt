-- A step of a station, or of those below it, is a poll of the tree.
use Rattle.std.proofs.Common.{ℕ, ◌+◌, ◌≡◌, inl, inr, refl, sym, ap, ◌∙◌, subst, eqb, List, [], ◌∷◌, ◌++◌, length, take, drop, true, false, arith, zero, suc, Result, Ok, Err, IfOk, get_or, slice_set, min, ◌<◌, ◌-◌, length-append, IsSome}
use Rattle.std.proofs.lemmas.Bool.Decides.{eqb_tells}
use Rattle.std.proofs.lemmas.List.{take_all}
use Rattle.core_frame.specs.Step.{Need, Scan, Recv, Send, Grow, Free, Writes, Finish, Fail}
use Rattle.dfx_value.specs.Items.{Cells}
use Rattle.tree_laws.specs.Operators.{Told, Op}
use Rattle.tree_laws.specs.Trees.{Desk, Tree, Nothing, Files, Inlet, Node, Poll, Gives, Ends, Moves, Asks, with_offered, with_input, input_poll, node_poll, poll}
use Rattle.task_stations.specs.declared.seat.Seat.{Seat}
use Rattle.task_stations.specs.declared.seat.Own.{Own}
use Rattle.task_stations.specs.declared.seat.Own.TheVariants as own
use Rattle.task_stations.specs.declared.station.Inlet.{Inlet as Leaf_}
use Rattle.task_stations.specs.declared.station.Station.{Station}
use Rattle.task_stations.specs.declared.scan.Scan.{Scan as Scan_}
use Rattle.task_stations.specs.declared.station.Station.TheVariants.{Leaf, Scans, Inner}
use Rattle.task_stations.specs.declared.needs.Step.{Step}
use Rattle.task_stations.specs.declared.needs.Step.TheVariants as step
use Rattle.task_stations.specs.Scans.{OnFiles}
use Rattle.task_stations.specs.Stands.{need_of, IsSeat, IsSeatOf, IsSeatAsking, IsInlet, piece, Stands, Asked, UnlessFails, StepIs, IsIdle, OwnIs, HandedIs}

pub unless : {S R : Type 0} → (n : Need (List Cells)) → (S → R) → UnlessFails n S → UnlessFails n R
unless (Fail cause) f k = k
unless Scan f k = f k
unless (Recv g c) f k = f k
unless (Send c b) f k = f k
unless (Grow c b) f k = f k
unless (Free c b) f k = f k
unless Writes f k = f k
unless Finish f k = f k

-- what stands after a step
pub map_step : (S A R B : Tree → Type 0) → ((t : Tree) → S t → R t) → ((t : Tree) → A t → B t) → (t : Tree) (p : Poll) (s : Step) → StepIs S A t p s → StepIs R B t p s
map_step S A R B f g t (Gives rows rest) (step.Gives b) k = (k.0, f rest k.1)
map_step S A R B f g t Ends step.Ends k = f t k
map_step S A R B f g t (Moves rest) step.Moves k = f rest k
map_step S A R B f g t (Asks n after) (step.Asks m) k = (k.0, unless n (g t) k.1)
map_step S A R B f g t (Gives rows rest) step.Ends k = absurd k
map_step S A R B f g t (Gives rows rest) step.Moves k = absurd k
map_step S A R B f g t (Gives rows rest) (step.Asks m) k = absurd k
map_step S A R B f g t Ends (step.Gives b) k = absurd k
map_step S A R B f g t Ends step.Moves k = absurd k
map_step S A R B f g t Ends (step.Asks m) k = absurd k
map_step S A R B f g t (Moves rest) (step.Gives b) k = absurd k
map_step S A R B f g t (Moves rest) step.Ends k = absurd k
map_step S A R B f g t (Moves rest) (step.Asks m) k = absurd k
map_step S A R B f g t (Asks n after) (step.Gives b) k = absurd k
map_step S A R B f g t (Asks n after) step.Ends k = absurd k
map_step S A R B f g t (Asks n after) step.Moves k = absurd k

module _ {T F : Type 0} (K : T → Op → Told → ℕ → Type 0) (L : Scan_ F → Tree → Type 0) where
  -- no station
  pub empty_step : (ss : List (Station T F)) (most : ℕ) → ss ≡ [] → (t : Tree) → Stands K L ss t → StepIs (Stands K L ss) (Asked K L ss) t (poll most t) step.Ends
  empty_step ss most e Nothing k = k
  empty_step [] most e (Files all files gave unread) k = absurd k
  empty_step (x ∷ ss) most e (Files all files gave unread) k = cc
  empty_step [] most e (Inlet g c gave unread over) k = absurd k
  empty_step (x ∷ ss) most e (Inlet g c gave unread over) k = cc
  empty_step [] most e (Node op t d inputs) k = absurd k.0
  empty_step (x ∷ ss) most e (Node op t d inputs) k = cc

  pub leaf_stands : (l : Leaf_) (ss : List (Station T F)) (t : Tree) → IsInlet l t → Stands K L (Leaf l ∷ ss) t
  leaf_stands l ss Nothing k = absurd k
  leaf_stands l ss (Files all files gave unread) k = absurd k
  leaf_stands l ss (Inlet g c gave unread over) k = k
  leaf_stands l ss (Node op t d inputs) k = absurd k

  pub leaf_asked : (l : Leaf_) (ss : List (Station T F)) (t : Tree) → IsInlet l t → Asked K L (Leaf l ∷ ss) t
  leaf_asked l ss Nothing k = absurd k
  leaf_asked l ss (Files all files gave unread) k = absurd k
  leaf_asked l ss (Inlet g c gave unread over) k = (k, tt)
  leaf_asked l ss (Node op t d inputs) k = absurd k

  -- a scan
  module _ (only : (s : Scan_ F) (t : Tree) → L s t → OnFiles t) where
    pub scan_stands : (s : Scan_ F) (ss : List (Station T F)) (t : Tree) → L s t → Stands K L (Scans s ∷ ss) t
    scan_stands s ss Nothing k = absurd (only s Nothing k)
    scan_stands s ss (Files all files gave unread) k = k
    scan_stands s ss (Inlet g c gave unread over) k = absurd (only s (Inlet g c gave unread over) k)
    scan_stands s ss (Node op t d inputs) k = absurd (only s (Node op t d inputs) k)

    scan_asked : (s : Scan_ F) (ss : List (Station T F)) (t : Tree) → L s t × IsSome s.ready → Asked K L (Scans s ∷ ss) t
    scan_asked s ss Nothing k = absurd (only s Nothing k.0)
    scan_asked s ss (Files all files gave unread) k = (k.0, k.1)
    scan_asked s ss (Inlet g c gave unread over) k = absurd (only s (Inlet g c gave unread over) k.0)
    scan_asked s ss (Node op t d inputs) k = absurd (only s (Node op t d inputs) k.0)

    pub files_step : (l m : Scan_ F) (ss : List (Station T F)) (most : ℕ) (r : Step) → ((t : Tree) → L l t → StepIs (L m) (λ z. L m z × IsSome m.ready) t (poll most t) r)
        → (t : Tree) → Stands K L (Scans l ∷ ss) t → StepIs (Stands K L (Scans m ∷ ss)) (Asked K L (Scans m ∷ ss)) t (poll most t) r
    files_step l m ss most r f Nothing k = cc
    files_step l m ss most r f (Files all files gave unread) k =
        map_step (L m) (λ z. L m z × IsSome m.ready) (Stands K L (Scans m ∷ ss)) (Asked K L (Scans m ∷ ss)) (scan_stands m ss) (scan_asked m ss) (Files all files gave unread) (poll most (Files all files gave unread)) r (f (Files all files gave unread) k)
    files_step l m ss most r f (Inlet g c gave unread over) k = absurd k
    files_step l m ss most r f (Node op t d inputs) k = absurd k.0

  -- a channel
  pub leaf_step : (l m : Leaf_) (ss : List (Station T F)) (most : ℕ) (r : Step) → ((t : Tree) → IsInlet l t → StepIs (IsInlet m) (IsInlet m) t (poll most t) r)
      → (t : Tree) → Stands K L (Leaf l ∷ ss) t → StepIs (Stands K L (Leaf m ∷ ss)) (Asked K L (Leaf m ∷ ss)) t (poll most t) r
  leaf_step l m ss most r f Nothing k = cc
  leaf_step l m ss most r f (Files all files gave unread) k = absurd k
  leaf_step l m ss most r f (Inlet g c gave unread over) k = map_step (IsInlet m) (IsInlet m) (Stands K L (Leaf m ∷ ss)) (Asked K L (Leaf m ∷ ss)) (leaf_stands m ss) (leaf_asked m ss) (Inlet g c gave unread over) (poll most (Inlet g c gave unread over)) r (f (Inlet g c gave unread over) k)
  leaf_step l m ss most r f (Node op t d inputs) k = absurd k.0

  -- what a step of the operator by itself ensures
  abbrev pub OwnEnsures : (seat new : Seat T) (most : ℕ) (r : Own) → Type 0
  OwnEnsures seat new most r = (op : Op) (t : Told) (d : Desk) (inputs : ℕ → Tree) (asked : Poll) → IsSeat K seat op t d
      → OwnIs (IsSeatOf K new inputs) (IsSeatAsking K new inputs) (Node op t d inputs) (node_poll most op t d inputs (drop (length d.gave) (op.items t)) asked) r

  module _ (seat new : Seat T) (ss : List (Station T F)) (most : ℕ) (left : new.sizes.items ≡ seat.sizes.items) where
    pub seat_stands : (inputs : ℕ → Tree) → ((i : ℕ) → Stands K L (piece seat.sizes.items ss i) (inputs i)) → (t : Tree) → IsSeatOf K new inputs t → Stands K L (Inner new ∷ ss) t
    seat_stands inputs q Nothing k = absurd k
    seat_stands inputs q (Files all files gave unread) k = absurd k
    seat_stands inputs q (Inlet g c gave unread over) k = absurd k
    seat_stands inputs q (Node op t d inputs2) k = (
      k.0,
      (let P : (ℕ → Tree) → Type 0 = λ f. (i : ℕ) → Stands K L (piece new.sizes.items ss i) (f i) in subst P (sym k.1) (let Q : List ℕ → Type 0 = λ n. (i : ℕ) → Stands K L (piece n ss i) (inputs i) in subst Q (sym left) q)),
    )

    seat_asked : (inputs : ℕ → Tree) → ((i : ℕ) → Stands K L (piece seat.sizes.items ss i) (inputs i)) → (t : Tree) → IsSeatAsking K new inputs t → Asked K L (Inner new ∷ ss) t
    seat_asked inputs q Nothing k = absurd k
    seat_asked inputs q (Files all files gave unread) k = absurd k
    seat_asked inputs q (Inlet g c gave unread over) k = absurd k
    seat_asked inputs q (Node op t d inputs2) k = (seat_stands inputs q (Node op t d inputs2) (k.0, k.1), λ e. absurd (k.2 e))

    -- the operator does something itself
    pub seat_done : (r : Step) → OwnEnsures seat new most (own.Done r) → (t : Tree) → Stands K L (Inner seat ∷ ss) t → StepIs (Stands K L (Inner new ∷ ss)) (Asked K L (Inner new ∷ ss)) t (poll most t) r
    seat_done r f Nothing k = cc
    seat_done r f (Files all files gave unread) k = absurd k
    seat_done r f (Inlet g c gave unread over) k = absurd k
    seat_done r f (Node op t d inputs) k = map_step (IsSeatOf K new inputs) (IsSeatAsking K new inputs) (Stands K L (Inner new ∷ ss)) (Asked K L (Inner new ∷ ss)) (seat_stands inputs k.1) (seat_asked inputs k.1) (Node op t d inputs) (poll most (Node op t d inputs)) r
        (f op t d inputs (poll most (inputs (op.wanted t))) k.0)

  module _ (left : List ℕ) (ss : List (Station T F)) (inputs : ℕ → Tree) (w : ℕ) (others : (j : ℕ) → ¬ (j ≡ w) → Stands K L (piece left ss j) (inputs j)) where
    pub all_pieces : Stands K L (piece left ss w) (inputs w) → (j : ℕ) → Stands K L (piece left ss j) (inputs j)
    all_pieces l j = elim (eqb_tells j w) [
      | inl s ↦ (let P : ℕ → Type 0 = λ k. Stands K L (piece left ss k) (inputs k) in subst P (sym s.1) l)
      | inr n ↦ others j n.1
    ]

    pub besides : (x : Tree) → Stands K L (piece left ss w) x → (j : ℕ) → Stands K L (piece left ss j) (with_input inputs w x j)
    besides x l j = elim (eqb_tells j w) [
      | inl s ↦ rw s.0 (let P : ℕ → Type 0 = λ k. Stands K L (piece left ss k) x in subst P (sym s.1) l)
      | inr n ↦ rw n.0 (others j n.1)
    ]

  -- the wanted input is asked
  module _ (seat : Seat T) (ss : List (Station T F)) (op : Op) (t : Told) (d : Desk) (inputs : ℕ → Tree)
      (others : (j : ℕ) → ¬ (j ≡ op.wanted t) → Stands K L (piece seat.sizes.items ss j) (inputs j)) where
    up_by : (p : Poll) (asked r : Step) → StepIs (Stands K L (piece seat.sizes.items ss (op.wanted t))) (Asked K L (piece seat.sizes.items ss (op.wanted t))) (inputs (op.wanted t)) p asked → HandedIs K op t d seat asked r
        → StepIs (Stands K L (Inner seat ∷ ss)) (Asked K L (Inner seat ∷ ss)) (Node op t d inputs) (input_poll op t d inputs (op.wanted t) p) r
    up_by (Gives rows rest) (step.Gives b) step.Moves k h = (
      (let P : List Cells → Type 0 = λ z. IsSeat K seat op t (with_offered d z) in subst P k.0 h),
      besides seat.sizes.items ss inputs (op.wanted t) others rest k.1,
    )
    up_by Ends step.Ends step.Moves k h = (h, all_pieces seat.sizes.items ss inputs (op.wanted t) others k)
    up_by (Moves rest) step.Moves step.Moves k h = (h, besides seat.sizes.items ss inputs (op.wanted t) others rest k)
    up_by (Asks n after) (step.Asks m) (step.Asks q) k h = (ap need_of h.0 ∙ k.0, unless n (λ z. ((h.1, all_pieces seat.sizes.items ss inputs (op.wanted t) others z.0), λ _. z.1)) k.1)
    up_by (Gives rows rest) (step.Gives b) r k h = absurd h
    up_by Ends step.Ends r k h = absurd h
    up_by (Moves rest) step.Moves r k h = absurd h
    up_by (Asks n after) (step.Asks m) r k h = absurd h
    up_by p asked r k h = absurd k

  -- the wanted input is asked, and what it answers is handed up
  module _ (old mid new : Seat T) (ss ss2 : List (Station T F)) (most i : ℕ) (asked r : Step)
      (left : mid.sizes.items ≡ old.sizes.items) (left2 : new.sizes.items ≡ mid.sizes.items) (same : length ss2 ≡ length ss)
      (own_is : OwnEnsures old mid most (own.Wants i))
      (below_is : (t : Tree) → Stands K L (piece mid.sizes.items ss i) t → StepIs (Stands K L (piece mid.sizes.items ss2 i)) (Asked K L (piece mid.sizes.items ss2 i)) t (poll most t) asked)
      (others : (j : ℕ) → ¬ (j ≡ i) → piece mid.sizes.items ss2 j ≡ piece mid.sizes.items ss j)
      (hand : (op : Op) (t : Told) (d : Desk) → IsSeat K mid op t d → drop (length d.gave) (op.items t) ≡ [] → op.is_complete t ≡ false → HandedIs K op t d new asked r) where
    node_asks : (op : Op) (t : Told) (d : Desk) (inputs : ℕ → Tree) → Stands K L (Inner old ∷ ss) (Node op t d inputs)
        → IsSeat K mid op t d → IsIdle (Node op t d inputs) i → StepIs (Stands K L (Inner new ∷ ss2)) (Asked K L (Inner new ∷ ss2)) (Node op t d inputs) (poll most (Node op t d inputs)) r
    node_asks op t d inputs k seat idle = subst Q (sym turned) (up_by new ss2 op t d inputs kept (poll most (inputs (op.wanted t))) asked r child (hand op t d seat idle.0 idle.1))
      where
        at_mid : (j : ℕ) → Stands K L (piece mid.sizes.items ss j) (inputs j)
        at_mid j = let P : List ℕ → Type 0 = λ n. Stands K L (piece n ss j) (inputs j) in subst P (sym left) (k.1 j)

        kept : (j : ℕ) → ¬ (j ≡ op.wanted t) → Stands K L (piece new.sizes.items ss2 j) (inputs j)
        kept j n = let P : List ℕ → Type 0 = λ m. Stands K L (piece m ss2 j) (inputs j) in subst P (sym left2) (let R : List (Station T F) → Type 0 = λ z. Stands K L z (inputs j) in subst R (sym (others j (λ e. n (e ∙ idle.3)))) (at_mid j))

        child : StepIs (Stands K L (piece new.sizes.items ss2 (op.wanted t))) (Asked K L (piece new.sizes.items ss2 (op.wanted t))) (inputs (op.wanted t)) (poll most (inputs (op.wanted t))) asked
        child = let P : List ℕ → Type 0 = λ m. StepIs (Stands K L (piece m ss2 (op.wanted t))) (Asked K L (piece m ss2 (op.wanted t))) (inputs (op.wanted t)) (poll most (inputs (op.wanted t))) asked in subst P (sym left2)
            (let R : ℕ → Type 0 = λ j. StepIs (Stands K L (piece mid.sizes.items ss2 j)) (Asked K L (piece mid.sizes.items ss2 j)) (inputs j) (poll most (inputs j)) asked in subst R idle.3 (below_is (inputs i) (at_mid i)))

        Q : Poll → Type 0
        Q p = StepIs (Stands K L (Inner new ∷ ss2)) (Asked K L (Inner new ∷ ss2)) (Node op t d inputs) p r

        turned : poll most (Node op t d inputs) ≡ input_poll op t d inputs (op.wanted t) (poll most (inputs (op.wanted t)))
        turned = rw (idle.0, idle.1, idle.2) refl

    pub seat_asks : (t : Tree) → Stands K L (Inner old ∷ ss) t → StepIs (Stands K L (Inner new ∷ ss2)) (Asked K L (Inner new ∷ ss2)) t (poll most t) r
    seat_asks Nothing k = cc
    seat_asks (Files all files gave unread) k = absurd k
    seat_asks (Inlet g c gave unread over) k = absurd k
    seat_asks (Node op t d inputs) k = let o = own_is op t d inputs (poll most (inputs (op.wanted t))) k.0 in node_asks op t d inputs k o.0.0 o.1

-- ------------------------------------------------------------ as a slice is cut into its first station and those below

module _ {A : Type 0} where
  pub cut_one : (xs first bs : List A) (x y : A) → xs ≡ first ++ bs → length first ≡ 1 → get_or first 0 x ≡ y → xs ≡ y ∷ bs
  cut_one xs [] bs x y e l i = cc
  cut_one xs (a ∷ []) bs x y e l i = e ∙ ap (λ z. z ∷ bs) i
  cut_one xs (a ∷ b ∷ more) bs x y e l i = absurd (omega (arith, l))

  pub set_one : (first bs : List A) (y : A) → length first ≡ 1 → slice_set first 0 y ++ bs ≡ y ∷ bs
  set_one [] bs y l = cc
  set_one (a ∷ []) bs y l = refl
  set_one (a ∷ b ∷ more) bs y l = absurd (omega (arith, l))

module _ {T F : Type 0} (K : T → Op → Told → ℕ → Type 0) (L : Scan_ F → Tree → Type 0) (xs first bs : List (Station T F)) (x : Station T F) (seat : Seat T)
    (value : xs ≡ first ++ bs) (front : length first ≡ 1) (inner : get_or first 0 x ≡ Inner seat) where
  pub whole : xs ≡ Inner seat ∷ bs
  whole = cut_one xs first bs x (Inner seat) value front inner

  pub at_done : (new : Seat T) (most : ℕ) (r : Step) (o : Own) → new.sizes.items ≡ seat.sizes.items → o ≡ own.Done r → OwnEnsures K L seat new most o
      → (t : Tree) → Stands K L xs t → StepIs (Stands K L (slice_set first 0 (Inner new) ++ bs)) (Asked K L (slice_set first 0 (Inner new) ++ bs)) t (poll most t) r
  at_done new most r o left e f t k =
      let P : List (Station T F) → Type 0 = λ z. StepIs (Stands K L z) (Asked K L z) t (poll most t) r in
      let Q : Own → Type 0 = OwnEnsures K L seat new most in
      let S : List (Station T F) → Type 0 = λ z. Stands K L z t in
      subst P (sym (set_one first bs (Inner new) front)) (seat_done K L seat new bs most left r (subst Q e f) t (subst S whole k))

  pub at_asks : {E : Type 0} (mid new : Seat T) (bs2 : List (Station T F)) (most i : ℕ) (o : Own) (asked : Step) (r : Result Step E) (sizes : List ℕ)
      → sizes ≡ mid.sizes.items → mid.sizes.items ≡ seat.sizes.items → new.sizes.items ≡ mid.sizes.items → length bs2 ≡ length bs → o ≡ own.Wants i → OwnEnsures K L seat mid most o
      → ((t : Tree) → Stands K L (piece sizes bs i) t → StepIs (Stands K L (piece sizes bs2 i)) (Asked K L (piece sizes bs2 i)) t (poll most t) asked)
      → ((j : ℕ) → ¬ (j ≡ i) → piece sizes bs2 j ≡ piece sizes bs j)
      → ((op : Op) (t : Told) (d : Desk) → IsSeat K mid op t d → drop (length d.gave) (op.items t) ≡ [] → op.is_complete t ≡ false → IfOk r (HandedIs K op t d new asked))
      → (t : Tree) → Stands K L xs t → IfOk r (StepIs (Stands K L (slice_set first 0 (Inner new) ++ bs2)) (Asked K L (slice_set first 0 (Inner new) ++ bs2)) t (poll most t))
  at_asks mid new bs2 most i o asked (Ok r) sizes same_sizes left left2 same e f b others h t k =
      let P : List (Station T F) → Type 0 = λ z. StepIs (Stands K L z) (Asked K L z) t (poll most t) r in
      let Q : Own → Type 0 = OwnEnsures K L seat mid most in
      let S : List (Station T F) → Type 0 = λ z. Stands K L z t in
      let B : List ℕ → Type 0 = λ z. (t : Tree) → Stands K L (piece z bs i) t → StepIs (Stands K L (piece z bs2 i)) (Asked K L (piece z bs2 i)) t (poll most t) asked in
      let O : List ℕ → Type 0 = λ z. (j : ℕ) → ¬ (j ≡ i) → piece z bs2 j ≡ piece z bs j in
      subst P (sym (set_one first bs2 (Inner new) front)) (seat_asks K L seat mid new bs bs2 most i asked r left left2 same (subst Q e f) (subst B same_sizes b) (subst O same_sizes others) h t (subst S whole k))
  at_asks mid new bs2 most i o asked (Err x) sizes same_sizes left left2 same e f b others h t k = tt

-- ------------------------------------------------------------ no station

pub empty_of : {A : Type 0} (xs : List A) → true ≡ eqb (length xs) 0 → xs ≡ []
empty_of [] e = refl
empty_of (x ∷ xs) e = elim (eqb_tells (length (x ∷ xs)) 0) [
  | inl s ↦ cc
  | inr n ↦ cc
]

pub at_empty : {T F : Type 0} (K : T → Op → Told → ℕ → Type 0) (L : Scan_ F → Tree → Type 0) (xs : List (Station T F)) (most : ℕ) → true ≡ eqb (length xs) 0 → (t : Tree) → Stands K L xs t → StepIs (Stands K L xs) (Asked K L xs) t (poll most t) step.Ends
at_empty K L xs most e = empty_step K L xs most (empty_of xs e)

-- ------------------------------------------------------------ the pieces of a slice that is cut in two

pub take_front : {A : Type 0} (fs bs : List A) (n : ℕ) → length fs ≡ min n (length fs + length bs) → take n (fs ++ bs) ≡ fs
take_front [] [] zero e = refl
take_front [] [] (suc n) e = refl
take_front [] (b ∷ bs) zero e = refl
take_front [] (b ∷ bs) (suc n) e = absurd (omega (arith, e))
take_front (x ∷ fs) bs zero e = absurd (omega (arith, e))
take_front (x ∷ fs) bs (suc n) e = ap (λ z. x ∷ z) (take_front fs bs n (omega (arith, e)))

pub drop_front : {A : Type 0} (fs bs : List A) (n : ℕ) → length fs ≡ min n (length fs + length bs) → drop n (fs ++ bs) ≡ bs
drop_front [] [] zero e = refl
drop_front [] [] (suc n) e = refl
drop_front [] (b ∷ bs) zero e = refl
drop_front [] (b ∷ bs) (suc n) e = absurd (omega (arith, e))
drop_front (x ∷ fs) bs zero e = absurd (omega (arith, e))
drop_front (x ∷ fs) bs (suc n) e = drop_front fs bs n (omega (arith, e))

-- `&sizes[1..]`
abbrev pub tail_of : List ℕ → List ℕ
tail_of ns = take (length ns - 1) (drop 1 ns)

tail_is : (ns : List ℕ) → tail_of ns ≡ drop 1 ns
tail_is [] = refl
tail_is (n ∷ ns) = take_all (suc (length ns) - 1) ns (omega arith)

-- sizes that aren't empty, and the slice that is cut by the first of them
module _ {A : Type 0} (sizes : List ℕ) (fs bs : List A) (some : 0 < length sizes) (cut : length fs ≡ min (get_or sizes 0 0) (length fs + length bs)) where
  pub first_piece : (i : ℕ) → i ≡ 0 → piece sizes (fs ++ bs) i ≡ fs
  first_piece i e = ap (piece sizes (fs ++ bs)) e ∙ go sizes some cut
    where
      go : (ns : List ℕ) → 0 < length ns → length fs ≡ min (get_or ns 0 0) (length fs + length bs) → piece ns (fs ++ bs) 0 ≡ fs
      go [] w c = absurd (omega (arith, w))
      go (n ∷ ns) w c = take_front fs bs n c

  pub later_piece : (i : ℕ) → ¬ (i ≡ 0) → piece sizes (fs ++ bs) i ≡ piece (tail_of sizes) bs (i - 1)
  later_piece i p = go sizes i some cut p ∙ ap (λ z. piece z bs (i - 1)) (sym (tail_is sizes))
    where
      go : (ns : List ℕ) (i : ℕ) → 0 < length ns → length fs ≡ min (get_or ns 0 0) (length fs + length bs) → ¬ (i ≡ 0) → piece ns (fs ++ bs) i ≡ piece (drop 1 ns) bs (i - 1)
      go [] i w c p = absurd (omega (arith, w))
      go (n ∷ ns) zero w c p = absurd (p refl)
      go (n ∷ ns) (suc i) w c p =
          let e : suc i - 1 ≡ i = omega arith in
          ap (λ z. piece ns z i) (drop_front fs bs n c) ∙ ap (piece ns bs) (sym e)

pub at_rest : {T F : Type 0} (K : T → Op → Told → ℕ → Type 0) (L : Scan_ F → Tree → Type 0) (sizes : List ℕ) (xs : List (Station T F)) (i most : ℕ) → true ≡ eqb (length sizes) 0 → (t : Tree) → Stands K L (piece sizes xs i) t → StepIs (Stands K L (piece sizes xs i)) (Asked K L (piece sizes xs i)) t (poll most t) step.Ends
at_rest K L sizes xs i most p t = empty_step K L (piece sizes xs i) most (ap (λ z. piece z xs i) (empty_of sizes p)) t

-- the slice is cut by the first of the sizes
module _ {A : Type 0} (sizes : List ℕ) (xs fs bs : List A) (none : false ≡ eqb (length sizes) 0) (value : xs ≡ fs ++ bs) (len : length fs ≡ min (get_or sizes 0 0) (length xs)) where
  some_size : 0 < length sizes
  some_size = go sizes none
    where
      go : (ns : List ℕ) → false ≡ eqb (length ns) 0 → 0 < length ns
      go [] e = cc
      go (n ∷ ns) e = omega arith

  cut_at : (new back : List A) → length new ≡ length fs → length back ≡ length bs → length new ≡ min (get_or sizes 0 0) (length new + length back)
  cut_at new back e f =
      let long : length xs ≡ length fs + length bs = ap length value ∙ length-append fs bs in
      e ∙ (len ∙ ap (min (get_or sizes 0 0)) (let z : length xs ≡ length new + length back = omega (arith, long, e, f) in z))

  pub front_is : (i : ℕ) → i ≡ 0 → (new : List A) → length new ≡ length fs → piece sizes (new ++ bs) i ≡ new
  front_is i z new e = first_piece sizes new bs some_size (cut_at new bs e refl) i z

  pub front_was : (i : ℕ) → i ≡ 0 → piece sizes xs i ≡ fs
  front_was i z = ap (λ y. piece sizes y i) value ∙ front_is i z fs refl

  pub front_others : (i : ℕ) → i ≡ 0 → (new : List A) → length new ≡ length fs → (j : ℕ) → ¬ (j ≡ i) → piece sizes (new ++ bs) j ≡ piece sizes xs j
  front_others i z new e j n =
      later_piece sizes new bs some_size (cut_at new bs e refl) j (λ f. n (f ∙ sym z))
      ∙ sym (ap (λ y. piece sizes y j) value ∙ later_piece sizes fs bs some_size (cut_at fs bs refl refl) j (λ f. n (f ∙ sym z)))

  pub back_is : (i : ℕ) → ¬ (i ≡ 0) → (new : List A) → length new ≡ length bs → piece sizes (fs ++ new) i ≡ piece (tail_of sizes) new (i - 1)
  back_is i z new e = later_piece sizes fs new some_size (cut_at fs new refl e) i z

  pub back_was : (i : ℕ) → ¬ (i ≡ 0) → piece sizes xs i ≡ piece (tail_of sizes) bs (i - 1)
  back_was i z = ap (λ y. piece sizes y i) value ∙ back_is i z bs refl

  pub back_others : (i : ℕ) → ¬ (i ≡ 0) → (new : List A) → length new ≡ length bs → ((j : ℕ) → ¬ (j ≡ i - 1) → piece (tail_of sizes) new j ≡ piece (tail_of sizes) bs j) → (j : ℕ) → ¬ (j ≡ i) → piece sizes (fs ++ new) j ≡ piece sizes xs j
  back_others i z new e others j n = elim (eqb_tells j 0) [
    | inl s ↦ first_piece sizes fs new some_size (cut_at fs new refl e) j s.1 ∙ sym (front_was j s.1)
    | inr s ↦ back_is j s.1 new e ∙ (others (j - 1) (λ f. n (omega (arith, f, z, s.1))) ∙ sym (back_was j s.1))
  ]

module _ {T F E : Type 0} (K : T → Op → Told → ℕ → Type 0) (L : Scan_ F → Tree → Type 0) (most : ℕ) (r : Result Step E) (old new old2 new2 : List (Station T F)) (was : old2 ≡ old) (is : new2 ≡ new)
    (f : (t : Tree) → Stands K L old t → IfOk r (StepIs (Stands K L new) (Asked K L new) t (poll most t))) where
  pub at_piece : (t : Tree) → Stands K L old2 t → IfOk r (StepIs (Stands K L new2) (Asked K L new2) t (poll most t))
  at_piece t k =
      let P : List (Station T F) → Type 0 = λ z. IfOk r (StepIs (Stands K L z) (Asked K L z) t (poll most t)) in
      let S : List (Station T F) → Type 0 = λ z. Stands K L z t in
      subst P (sym is) (f t (subst S was k))

-- a scan, as a slice is cut
module _ {T F E : Type 0} (K : T → Op → Told → ℕ → Type 0) (L : Scan_ F → Tree → Type 0) (only : (s : Scan_ F) (t : Tree) → L s t → OnFiles t)
    (xs first bs : List (Station T F)) (x : Station T F) (l : Scan_ F) (value : xs ≡ first ++ bs) (front : length first ≡ 1) (scan : get_or first 0 x ≡ Scans l) where
  pub at_files : (m : Scan_ F) (most : ℕ) (r : Result Step E) → ((t : Tree) → L l t → IfOk r (StepIs (L m) (λ z. L m z × IsSome m.ready) t (poll most t)))
      → (t : Tree) → Stands K L xs t → IfOk r (StepIs (Stands K L (slice_set first 0 (Scans m) ++ bs)) (Asked K L (slice_set first 0 (Scans m) ++ bs)) t (poll most t))
  at_files m most (Ok r) f t k =
      let P : List (Station T F) → Type 0 = λ z. StepIs (Stands K L z) (Asked K L z) t (poll most t) r in
      let S : List (Station T F) → Type 0 = λ z. Stands K L z t in
      subst P (sym (set_one first bs (Scans m) front)) (files_step K L only l m bs most r f t (subst S (cut_one xs first bs x (Scans l) value front scan) k))
  at_files m most (Err e) f t k = tt
