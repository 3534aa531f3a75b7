-- A reply to the station that asked is the tree's after the reply.
use Rattle.std.proofs.Common.{ℕ, ◌≡◌, refl, sym, ap, ◌∙◌, subst, eqb, List, [], ◌∷◌, ◌++◌, length, take, drop, Bool, true, false, Option, Some, None, Result, Ok, Err, OnOk, get_or, slice_set, IsSome}
use Rattle.dfx_value.specs.declared.fault.ItemFault.{ItemFault}
use Rattle.core_frame.specs.Step.{Need}
use Rattle.history_laws.specs.Histories.{Reply}
use Rattle.dfx_value.specs.Items.{Cells, Item}
use Rattle.tree_laws.specs.Operators.{Told, Op, first_fault}
use Rattle.tree_laws.specs.Trees.{Desk, Tree, Nothing, Files, Inlet, Node, Poll, Gives, Ends, Moves, Asks, cut_poll, idle_poll, input_poll, node_poll, poll}
use Rattle.task_stations.specs.declared.seat.Seat.{Seat}
use Rattle.task_stations.specs.declared.station.Inlet.{Inlet as Leaf_}
use Rattle.task_stations.specs.declared.station.Station.{Station}
use Rattle.task_stations.specs.declared.scan.Scan.{Scan as Scan_}
use Rattle.task_stations.specs.declared.station.Station.TheVariants.{Leaf, Scans, Inner}
use Rattle.task_stations.specs.Scans.{OnFiles}
use Rattle.task_stations.specs.Slots.{rows_of}
use Rattle.task_stations.specs.Stands.{IsSeat, IsSeatOf, IsInlet, piece, Stands, IsReady, Asked, Replied}
use Rattle.task_stations.proofs.Ups.{unless, leaf_stands, scan_stands, seat_stands, besides, set_one, cut_one, empty_of}

pub map_replied : (S R : Tree → Type 0) → ((t : Tree) → S t → R t) → (m : Need (List Cells)) (p : Poll) (x : Reply (List Cells)) → Replied S m p x → Replied R m p x
map_replied S R f m (Gives rows rest) x k = tt
map_replied S R f m Ends x k = tt
map_replied S R f m (Moves rest) x k = tt
map_replied S R f m (Asks n after) x k = λ e. unless n (f (after x)) (k e)

module _ {T F : Type 0} (K : T → Op → Told → ℕ → Type 0) (L : Scan_ F → Tree → Type 0) (m : Need (List Cells)) (x : Reply (List Cells)) where
  empty_reply : (ss : List (Station T F)) (most : ℕ) → ss ≡ [] → (t : Tree) → Asked K L ss t → Replied (Stands K L ss) m (poll most t) x
  empty_reply ss most e Nothing k = tt
  empty_reply [] most e (Files all files gave unread) k = absurd k.0
  empty_reply (y ∷ ss) most e (Files all files gave unread) k = cc
  empty_reply [] most e (Inlet g c gave unread over) k = absurd k.0
  empty_reply (y ∷ ss) most e (Inlet g c gave unread over) k = cc
  empty_reply [] most e (Node op t d inputs) k = absurd k.0.0
  empty_reply (y ∷ ss) most e (Node op t d inputs) k = cc

  leaf_reply : (l n : Leaf_) (ss : List (Station T F)) (most : ℕ) → ((t : Tree) → IsInlet l t → Replied (IsInlet n) m (poll most t) x)
      → (t : Tree) → Asked K L (Leaf l ∷ ss) t → Replied (Stands K L (Leaf n ∷ ss)) m (poll most t) x
  leaf_reply l n ss most f Nothing k = cc
  leaf_reply l n ss most f (Files all files gave unread) k = absurd k.0
  leaf_reply l n ss most f (Inlet g c gave unread over) k = map_replied (IsInlet n) (Stands K L (Leaf n ∷ ss)) (leaf_stands K L n ss) m (poll most (Inlet g c gave unread over)) x (f (Inlet g c gave unread over) k.0)
  leaf_reply l n ss most f (Node op t d inputs) k = absurd k.0.0

  -- a scan
  files_reply : ((s : Scan_ F) (t : Tree) → L s t → OnFiles t) → (l n : Scan_ F) (ss : List (Station T F)) (most : ℕ) → ((t : Tree) → L l t × IsSome l.ready → Replied (L n) m (poll most t) x)
      → (t : Tree) → Asked K L (Scans l ∷ ss) t → Replied (Stands K L (Scans n ∷ ss)) m (poll most t) x
  files_reply only l n ss most f Nothing k = cc
  files_reply only l n ss most f (Files all files gave unread) k = map_replied (L n) (Stands K L (Scans n ∷ ss)) (scan_stands K L only n ss) m (poll most (Files all files gave unread)) x (f (Files all files gave unread) (k.0, k.1))
  files_reply only l n ss most f (Inlet g c gave unread over) k = absurd k.0
  files_reply only l n ss most f (Node op t d inputs) k = absurd k.0.0

  -- its rows wait
  own_reply : (seat new : Seat T) (ss : List (Station T F)) (most : ℕ) → new.sizes.items ≡ seat.sizes.items → ¬ (rows_of seat.waiting ≡ [])
      → ((op : Op) (t : Told) (d : Desk) (inputs : ℕ → Tree) (asked : Poll) → IsSeat K seat op t d → ¬ (d.offered ≡ []) → Replied (IsSeatOf K new inputs) m (node_poll most op t d inputs (drop (length d.gave) (op.items t)) asked) x)
      → (t : Tree) → Asked K L (Inner seat ∷ ss) t → Replied (Stands K L (Inner new ∷ ss)) m (poll most t) x
  own_reply seat new ss most left w f Nothing k = cc
  own_reply seat new ss most left w f (Files all files gave unread) k = absurd k.0
  own_reply seat new ss most left w f (Inlet g c gave unread over) k = absurd k.0
  own_reply seat new ss most left w f (Node op t d inputs) k =
      map_replied (IsSeatOf K new inputs) (Stands K L (Inner new ∷ ss)) (seat_stands K L seat new ss most left inputs k.0.1) m (poll most (Node op t d inputs)) x
      (f op t d inputs (poll most (inputs (op.wanted t))) k.0.0 (λ e. w (k.0.0.waiting ∙ e)))

  -- none waits
  module _ (seat : Seat T) (ss : List (Station T F)) (most : ℕ) (op : Op) (t : Told) (d : Desk) (inputs : ℕ → Tree)
      (is : IsSeat K seat op t d) (none : d.offered ≡ []) where
    abbrev S : Tree → Type 0
    S = Stands K L (Inner seat ∷ ss)

    -- the wanted input was answered, and the others are as they were
    abbrev BelowReplied : Poll → Type 0
    BelowReplied p = ((j : ℕ) → ¬ (j ≡ op.wanted t) → Stands K L (piece seat.sizes.items ss j) (inputs j)) × Replied (Stands K L (piece seat.sizes.items ss (op.wanted t))) m p x

    asked_by : (p : Poll) → BelowReplied p → Replied S m (input_poll op t d inputs (op.wanted t) p) x
    asked_by (Gives rows rest) k = tt
    asked_by Ends k = tt
    asked_by (Moves rest) k = tt
    asked_by (Asks n after) k = λ e. unless n (λ z. (is, besides K L seat.sizes.items ss inputs (op.wanted t) k.0 (after x) z)) (k.1 e)

    idle_by : (c : Bool) (o : List Cells) (p : Poll) → o ≡ [] → (c ≡ false → BelowReplied p) → Replied S m (idle_poll op t d inputs c o p) x
    idle_by true o p e k = tt
    idle_by false [] p e k = asked_by p (k refl)
    idle_by false (y ∷ ys) p e k = cc

    cut_by : (cut : List Item) (o : Option ItemFault) → Replied S m (cut_poll op t d inputs cut o) x
    cut_by cut None = tt
    cut_by cut (Some f) = λ e. tt

    pub node_by : (xs : List Item) (p : Poll) → (xs ≡ [] → op.is_complete t ≡ false → BelowReplied p) → Replied S m (node_poll most op t d inputs xs p) x
    node_by [] p k = idle_by (op.is_complete t) d.offered p none (k refl)
    node_by (y ∷ ys) p k = cut_by (take most (y ∷ ys)) (first_fault (take most (y ∷ ys)))

  -- the wanted input is answered
  module _ (seat : Seat T) (ss ss2 : List (Station T F)) (most i : ℕ) (same : length ss2 ≡ length ss) (none : rows_of seat.waiting ≡ [])
      (wanted : (op : Op) (t : Told) (n : ℕ) → K seat.operator op t n → drop n (op.items t) ≡ [] → op.is_complete t ≡ false → i ≡ op.wanted t)
      (below_is : (t : Tree) → Asked K L (piece seat.sizes.items ss i) t → Replied (Stands K L (piece seat.sizes.items ss2 i)) m (poll most t) x)
      (others : (j : ℕ) → ¬ (j ≡ i) → piece seat.sizes.items ss2 j ≡ piece seat.sizes.items ss j) where
    below_reply : (t : Tree) → Asked K L (Inner seat ∷ ss) t → Replied (Stands K L (Inner seat ∷ ss2)) m (poll most t) x
    below_reply Nothing k = cc
    below_reply (Files all files gave unread) k = absurd k.0
    below_reply (Inlet g c gave unread over) k = absurd k.0
    below_reply (Node op t d inputs) k =
        node_by seat ss2 most op t d inputs k.0.0 (sym k.0.0.waiting ∙ none) (drop (length d.gave) (op.items t)) (poll most (inputs (op.wanted t))) (λ l c. idle (wanted op t (length d.gave) k.0.0.stands l c))
      where
        idle : i ≡ op.wanted t → BelowReplied seat ss2 most op t d inputs k.0.0 (sym k.0.0.waiting ∙ none) (poll most (inputs (op.wanted t)))
        idle is_wanted = (
          (λ j n. let R : List (Station T F) → Type 0 = λ z. Stands K L z (inputs j) in subst R (sym (others j (λ e. n (e ∙ is_wanted)))) (k.0.1 j)),
          (let R : ℕ → Type 0 = λ j. Replied (Stands K L (piece seat.sizes.items ss2 j)) m (poll most (inputs j)) x in
              let B : ℕ → Type 0 = λ j. IsReady (piece seat.sizes.items ss j) (inputs j) in
              subst R is_wanted (below_is (inputs i) (k.0.1 i, subst B (sym is_wanted) (k.1 (sym k.0.0.waiting ∙ none))))),
        )

  pub at_none : (most : ℕ) (xs : List (Station T F)) → true ≡ eqb (length xs) 0 → (t : Tree) → Asked K L xs t → Replied (Stands K L xs) m (poll most t) x
  at_none most xs e t k = empty_reply xs most (empty_of xs e) t k

  pub at_other : (most : ℕ) (sizes : List ℕ) (xs : List (Station T F)) (i : ℕ) → true ≡ eqb (length sizes) 0 → (t : Tree) → Asked K L (piece sizes xs i) t → Replied (Stands K L (piece sizes xs i)) m (poll most t) x
  at_other most sizes xs i e t k = empty_reply (piece sizes xs i) most (ap (λ z. piece z xs i) (empty_of sizes e)) t k

  module _ (xs first bs : List (Station T F)) (y : Station T F) (value : xs ≡ first ++ bs) (front : length first ≡ 1) where
    pub at_leaf : (most : ℕ) (l n : Leaf_) → get_or first 0 y ≡ Leaf l → ((t : Tree) → IsInlet l t → Replied (IsInlet n) m (poll most t) x)
        → (t : Tree) → Asked K L xs t → Replied (Stands K L (slice_set first 0 (Leaf n) ++ bs)) m (poll most t) x
    at_leaf most l n e f t k =
        let P : List (Station T F) → Type 0 = λ z. Replied (Stands K L z) m (poll most t) x in
        let S : List (Station T F) → Type 0 = λ z. Asked K L z t in
        subst P (sym (set_one first bs (Leaf n) front)) (leaf_reply l n bs most f t (subst S (cut_one xs first bs y (Leaf l) value front e) k))

    pub at_files : (most : ℕ) → ((s : Scan_ F) (t : Tree) → L s t → OnFiles t) → (l n : Scan_ F) → get_or first 0 y ≡ Scans l → ((t : Tree) → L l t × IsSome l.ready → Replied (L n) m (poll most t) x)
        → (t : Tree) → Asked K L xs t → Replied (Stands K L (slice_set first 0 (Scans n) ++ bs)) m (poll most t) x
    at_files most only l n e f t k =
        let P : List (Station T F) → Type 0 = λ z. Replied (Stands K L z) m (poll most t) x in
        let S : List (Station T F) → Type 0 = λ z. Asked K L z t in
        subst P (sym (set_one first bs (Scans n) front)) (files_reply only l n bs most f t (subst S (cut_one xs first bs y (Scans l) value front e) k))

    module _ (seat : Seat T) (inner : get_or first 0 y ≡ Inner seat) where
      pub at_own : {E : Type 0} (most : ℕ) (r : Result (Unit {0}) E) (new : Seat T) → new.sizes.items ≡ seat.sizes.items → ¬ (rows_of seat.waiting ≡ [])
          → ((op : Op) (t : Told) (d : Desk) (inputs : ℕ → Tree) (asked : Poll) → IsSeat K seat op t d → ¬ (d.offered ≡ []) → OnOk r (Replied (IsSeatOf K new inputs) m (node_poll most op t d inputs (drop (length d.gave) (op.items t)) asked) x))
          → (t : Tree) → Asked K L xs t → OnOk r (Replied (Stands K L (slice_set first 0 (Inner new) ++ bs)) m (poll most t) x)
      at_own most (Ok u) new left w f t k =
          let P : List (Station T F) → Type 0 = λ z. Replied (Stands K L z) m (poll most t) x in
          let S : List (Station T F) → Type 0 = λ z. Asked K L z t in
          subst P (sym (set_one first bs (Inner new) front)) (own_reply seat new bs most left w f t (subst S (cut_one xs first bs y (Inner seat) value front inner) k))
      at_own most (Err e) new left w f t k = tt

      pub at_below : {E : Type 0} (most : ℕ) (r : Result (Unit {0}) E) (bs2 : List (Station T F)) (i : ℕ) (sizes : List ℕ) → sizes ≡ seat.sizes.items → length bs2 ≡ length bs → rows_of seat.waiting ≡ []
          → ((op : Op) (t : Told) (n : ℕ) → K seat.operator op t n → drop n (op.items t) ≡ [] → op.is_complete t ≡ false → i ≡ op.wanted t)
          → ((t : Tree) → Asked K L (piece sizes bs i) t → OnOk r (Replied (Stands K L (piece sizes bs2 i)) m (poll most t) x))
          → ((j : ℕ) → ¬ (j ≡ i) → piece sizes bs2 j ≡ piece sizes bs j)
          → (t : Tree) → Asked K L xs t → OnOk r (Replied (Stands K L (slice_set first 0 (Inner seat) ++ bs2)) m (poll most t) x)
      at_below most (Ok u) bs2 i sizes same_sizes same none wanted b others t k =
          let P : List (Station T F) → Type 0 = λ z. Replied (Stands K L z) m (poll most t) x in
          let S : List (Station T F) → Type 0 = λ z. Asked K L z t in
          let B : List ℕ → Type 0 = λ z. (t : Tree) → Asked K L (piece z bs i) t → Replied (Stands K L (piece z bs2 i)) m (poll most t) x in
          let O : List ℕ → Type 0 = λ z. (j : ℕ) → ¬ (j ≡ i) → piece z bs2 j ≡ piece z bs j in
          subst P (sym (set_one first bs2 (Inner seat) front)) (below_reply seat bs bs2 most i same none wanted (subst B same_sizes b) (subst O same_sizes others) t (subst S (cut_one xs first bs y (Inner seat) value front inner) k))
      at_below most (Err e) bs2 i sizes same_sizes same none wanted b others t k = tt

module _ {T F E : Type 0} (K : T → Op → Told → ℕ → Type 0) (L : Scan_ F → Tree → Type 0) (m : Need (List Cells)) (x : Reply (List Cells)) (r : Result (Unit {0}) E) (old new old2 new2 : List (Station T F)) (was : old2 ≡ old) (is : new2 ≡ new)
    (most : ℕ) (f : (t : Tree) → Asked K L old t → OnOk r (Replied (Stands K L new) m (poll most t) x)) where
  pub at_piece : (t : Tree) → Asked K L old2 t → OnOk r (Replied (Stands K L new2) m (poll most t) x)
  at_piece t k =
      let P : List (Station T F) → Type 0 = λ z. OnOk r (Replied (Stands K L z) m (poll most t) x) in
      let S : List (Station T F) → Type 0 = λ z. Asked K L z t in
      subst P (sym is) (f t (subst S was k))

pub waits : {A : Type 0} (xs : List A) → false ≡ eqb (length xs) 0 → ¬ (xs ≡ [])
waits [] e = λ f. cc
waits (x ∷ xs) e = λ f. cc
