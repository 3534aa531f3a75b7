-- A step asks for channels and consumers of the stations alone.
use Rattle.std.proofs.Common.{ℕ, ◌≡◌, refl, sym, ap, ◌∙◌, subst, List, [], ◌∷◌, ◌++◌, length, Bool, true, false, ◌&&◌, Result, Ok, Err, IfOk, get_or, slice_set}
use Rattle.task_stations.specs.declared.seat.Seat.{Seat}
use Rattle.task_stations.specs.declared.seat.Own.{Own}
use Rattle.task_stations.specs.declared.seat.Own.TheVariants as own
use Rattle.task_stations.specs.declared.station.Inlet.{Inlet as Leaf_}
use Rattle.task_stations.specs.declared.scan.Scan.{Scan as Scan_}
use Rattle.task_stations.specs.declared.station.Station.{Station}
use Rattle.task_stations.specs.declared.station.Station.TheVariants.{Leaf, Scans, Inner}
use Rattle.task_stations.specs.declared.needs.Step.{Step}
use Rattle.task_stations.specs.Names.{passes_if, is_seat_named, are_named, is_named, is_own_named}
use Rattle.task_stations.proofs.Ups.{cut_one, set_one}

both : (a b : Bool) → (a && b) ≡ true → (a ≡ true) × (b ≡ true)
both true b e = (refl, e)
both false b e = cc

and : (a b : Bool) → a ≡ true → b ≡ true → (a && b) ≡ true
and true b e f = f
and false b e f = cc

module _ {T F : Type 0} (r : ℕ → ℕ → Bool) (h : ℕ → Bool) where
  abbrev pub is_station : Station T F → Bool
  is_station (Leaf l) = r l.group l.channel
  is_station (Scans s) = true
  is_station (Inner seat) = is_seat_named h seat

  named_first : (x : Station T F) (ss : List (Station T F)) → are_named r h (x ∷ ss) ≡ (is_station x && are_named r h ss)
  named_first (Leaf l) ss = refl
  named_first (Scans s) ss = refl
  named_first (Inner seat) ss = refl

  named_both : (xs ys : List (Station T F)) → are_named r h (xs ++ ys) ≡ true → (are_named r h xs ≡ true) × (are_named r h ys ≡ true)
  named_both [] ys e = (refl, e)
  named_both (x ∷ xs) ys e =
      let s = both (is_station x) (are_named r h (xs ++ ys)) (sym (named_first x (xs ++ ys)) ∙ e) in
      let t = named_both xs ys s.1 in
      (named_first x xs ∙ and (is_station x) (are_named r h xs) s.0 t.0, t.1)

  named_and : (xs ys : List (Station T F)) → are_named r h xs ≡ true → are_named r h ys ≡ true → are_named r h (xs ++ ys) ≡ true
  named_and [] ys e f = f
  named_and (x ∷ xs) ys e f =
      let s = both (is_station x) (are_named r h xs) (sym (named_first x xs) ∙ e) in
      named_first x (xs ++ ys) ∙ and (is_station x) (are_named r h (xs ++ ys)) s.0 (named_and xs ys s.1 f)

  pub own_at : {E : Type 0} (xs first bs bs2 : List (Station T F)) (y st st2 : Station T F) (result : Result Step E) → xs ≡ first ++ bs → length first ≡ 1 → get_or first 0 y ≡ st
      → (is_station st ≡ true → are_named r h bs ≡ true → IfOk result (λ s. (is_station st2 ≡ true) × (are_named r h bs2 ≡ true) × (is_named r h s ≡ true)))
      → are_named r h xs ≡ true → IfOk result (λ s. (are_named r h (slice_set first 0 st2 ++ bs2) ≡ true) × (is_named r h s ≡ true))
  own_at xs first bs bs2 y st st2 (Err e) value front inner f k = tt
  own_at xs first bs bs2 y st st2 (Ok s) value front inner f k =
      let old = both (is_station st) (are_named r h bs) (sym (named_first st bs) ∙ (ap (are_named r h) (sym (cut_one xs first bs y st value front inner)) ∙ k)) in
      let new = f old.0 old.1 in
      (ap (are_named r h) (set_one first bs2 st2 front) ∙ (named_first st2 bs2 ∙ and (is_station st2) (are_named r h bs2) new.0 new.1), new.2)

  pub scans_own : {E : Type 0} (m : Scan_ F) (bs : List (Station T F)) (result : Result Step E) → IfOk result (λ s. is_named r h s ≡ true)
      → true ≡ true → are_named r h bs ≡ true → IfOk result (λ s. (true ≡ true) × (are_named r h bs ≡ true) × (is_named r h s ≡ true))
  scans_own m bs (Ok s) f e k = (refl, k, f)
  scans_own m bs (Err x) f e k = tt

  pub done_own : (seat new : Seat T) (bs : List (Station T F)) (o : Own) (s : Step) → new.consumer ≡ seat.consumer → o ≡ own.Done s → (is_seat_named h seat ≡ true → is_own_named r h o ≡ true)
      → is_seat_named h seat ≡ true → are_named r h bs ≡ true → (is_seat_named h new ≡ true) × (are_named r h bs ≡ true) × (is_named r h s ≡ true)
  done_own seat new bs o s c e f k b = (ap (passes_if h) c ∙ k, b, (let P : Own → Type 0 = λ z. is_own_named r h z ≡ true in subst P e (f k)))

  pub asks_own : {E : Type 0} (seat mid new : Seat T) (bs bs2 : List (Station T F)) (asked : Step) (result : Result Step E) → mid.consumer ≡ seat.consumer → new.consumer ≡ mid.consumer
      → (are_named r h bs ≡ true → (are_named r h bs2 ≡ true) × (is_named r h asked ≡ true)) → (is_named r h asked ≡ true → IfOk result (λ s. is_named r h s ≡ true))
      → is_seat_named h seat ≡ true → are_named r h bs ≡ true → IfOk result (λ s. (is_seat_named h new ≡ true) × (are_named r h bs2 ≡ true) × (is_named r h s ≡ true))
  asks_own seat mid new bs bs2 asked (Ok s) c d f g k b = let x = f b in (ap (passes_if h) (d ∙ c) ∙ k, x.0, g x.1)
  asks_own seat mid new bs bs2 asked (Err e) c d f g k b = tt

  pub own_front : {E : Type 0} (xs fs bs fs2 : List (Station T F)) (result : Result Step E) → xs ≡ fs ++ bs → (are_named r h fs ≡ true → IfOk result (λ s. (are_named r h fs2 ≡ true) × (is_named r h s ≡ true)))
      → are_named r h xs ≡ true → IfOk result (λ s. (are_named r h (fs2 ++ bs) ≡ true) × (is_named r h s ≡ true))
  own_front xs fs bs fs2 (Ok s) v f k = let o = named_both fs bs (ap (are_named r h) (sym v) ∙ k) in let n = f o.0 in (named_and fs2 bs n.0 o.1, n.1)
  own_front xs fs bs fs2 (Err e) v f k = tt

  pub own_back : {E : Type 0} (xs fs bs bs2 : List (Station T F)) (result : Result Step E) → xs ≡ fs ++ bs → (are_named r h bs ≡ true → IfOk result (λ s. (are_named r h bs2 ≡ true) × (is_named r h s ≡ true)))
      → are_named r h xs ≡ true → IfOk result (λ s. (are_named r h (fs ++ bs2) ≡ true) × (is_named r h s ≡ true))
  own_back xs fs bs bs2 (Ok s) v f k = let o = named_both fs bs (ap (are_named r h) (sym v) ∙ k) in let n = f o.1 in (named_and fs bs2 o.0 n.0, n.1)
  own_back xs fs bs bs2 (Err e) v f k = tt

  -- as a slice is cut into its first station and those below
  module _ (xs first bs : List (Station T F)) (y : Station T F) (value : xs ≡ first ++ bs) (front : length first ≡ 1) where
    pub leaf_named : (l m : Leaf_) (s : Step) → get_or first 0 y ≡ Leaf l → (r l.group l.channel ≡ true → (r m.group m.channel ≡ true) × (is_named r h s ≡ true))
        → are_named r h xs ≡ true → (are_named r h (slice_set first 0 (Leaf m) ++ bs) ≡ true) × (is_named r h s ≡ true)
    leaf_named l m s i f k = own_at {E = Unit {0}} xs first bs bs y (Leaf l) (Leaf m) (Ok s) value front i (λ a b. let x = f a in (x.0, b, x.1)) k

    pub scans_named : {E : Type 0} (l m : Scan_ F) (result : Result Step E) → get_or first 0 y ≡ Scans l → IfOk result (λ s. is_named r h s ≡ true)
        → are_named r h xs ≡ true → IfOk result (λ s. (are_named r h (slice_set first 0 (Scans m) ++ bs) ≡ true) × (is_named r h s ≡ true))
    scans_named l m result i f = own_at xs first bs bs y (Scans l) (Scans m) result value front i (scans_own m bs result f)

    pub done_named : (seat new : Seat T) (o : Own) (s : Step) → get_or first 0 y ≡ Inner seat → new.consumer ≡ seat.consumer → o ≡ own.Done s → (is_seat_named h seat ≡ true → is_own_named r h o ≡ true)
        → are_named r h xs ≡ true → (are_named r h (slice_set first 0 (Inner new) ++ bs) ≡ true) × (is_named r h s ≡ true)
    done_named seat new o s i c e f k = own_at {E = Unit {0}} xs first bs bs y (Inner seat) (Inner new) (Ok s) value front i (done_own seat new bs o s c e f) k

    pub asks_named : {E : Type 0} (seat mid new : Seat T) (bs2 : List (Station T F)) (asked : Step) (result : Result Step E) → get_or first 0 y ≡ Inner seat → mid.consumer ≡ seat.consumer → new.consumer ≡ mid.consumer
        → (are_named r h bs ≡ true → (are_named r h bs2 ≡ true) × (is_named r h asked ≡ true)) → (is_named r h asked ≡ true → IfOk result (λ s. is_named r h s ≡ true))
        → are_named r h xs ≡ true → IfOk result (λ s. (are_named r h (slice_set first 0 (Inner new) ++ bs2) ≡ true) × (is_named r h s ≡ true))
    asks_named seat mid new bs2 asked result i c d f g = own_at xs first bs bs2 y (Inner seat) (Inner new) result value front i (asks_own seat mid new bs bs2 asked result c d f g)

  -- a reply leaves them
  pub front_keeps : (xs fs bs fs2 : List (Station T F)) → xs ≡ fs ++ bs → (are_named r h fs ≡ true → are_named r h fs2 ≡ true) → are_named r h xs ≡ true → are_named r h (fs2 ++ bs) ≡ true
  front_keeps xs fs bs fs2 v f k = let o = named_both fs bs (ap (are_named r h) (sym v) ∙ k) in named_and fs2 bs (f o.0) o.1

  pub back_keeps : (xs fs bs bs2 : List (Station T F)) → xs ≡ fs ++ bs → (are_named r h bs ≡ true → are_named r h bs2 ≡ true) → are_named r h xs ≡ true → are_named r h (fs ++ bs2) ≡ true
  back_keeps xs fs bs bs2 v f k = let o = named_both fs bs (ap (are_named r h) (sym v) ∙ k) in named_and fs bs2 o.0 (f o.1)

  keeps_at : (xs first bs bs2 : List (Station T F)) (y st st2 : Station T F) → xs ≡ first ++ bs → length first ≡ 1 → get_or first 0 y ≡ st
      → (is_station st ≡ true → is_station st2 ≡ true) → (are_named r h bs ≡ true → are_named r h bs2 ≡ true) → are_named r h xs ≡ true → are_named r h (slice_set first 0 st2 ++ bs2) ≡ true
  keeps_at xs first bs bs2 y st st2 value front inner f b k =
      let old = both (is_station st) (are_named r h bs) (sym (named_first st bs) ∙ (ap (are_named r h) (sym (cut_one xs first bs y st value front inner)) ∙ k)) in
      ap (are_named r h) (set_one first bs2 st2 front) ∙ (named_first st2 bs2 ∙ and (is_station st2) (are_named r h bs2) (f old.0) (b old.1))

  module _ (xs first bs : List (Station T F)) (y : Station T F) (value : xs ≡ first ++ bs) (front : length first ≡ 1) where
    pub leaf_keeps : (l m : Leaf_) → get_or first 0 y ≡ Leaf l → m.group ≡ l.group → m.channel ≡ l.channel → are_named r h xs ≡ true → are_named r h (slice_set first 0 (Leaf m) ++ bs) ≡ true
    leaf_keeps l m i g c = keeps_at xs first bs bs y (Leaf l) (Leaf m) value front i (λ e. ap (λ z. r z m.channel) g ∙ (ap (λ z. r l.group z) c ∙ e)) (λ b. b)

    pub scans_keep : (l m : Scan_ F) → get_or first 0 y ≡ Scans l → are_named r h xs ≡ true → are_named r h (slice_set first 0 (Scans m) ++ bs) ≡ true
    scans_keep l m i = keeps_at xs first bs bs y (Scans l) (Scans m) value front i (λ e. e) (λ b. b)

    pub seat_keeps : (seat new : Seat T) (bs2 : List (Station T F)) → get_or first 0 y ≡ Inner seat → new.consumer ≡ seat.consumer → (are_named r h bs ≡ true → are_named r h bs2 ≡ true)
        → are_named r h xs ≡ true → are_named r h (slice_set first 0 (Inner new) ++ bs2) ≡ true
    seat_keeps seat new bs2 i c f = keeps_at xs first bs bs2 y (Inner seat) (Inner new) value front i (λ e. ap (passes_if h) c ∙ e) f
