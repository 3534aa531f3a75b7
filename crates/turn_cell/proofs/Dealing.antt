-- The first seat has all numbers, which are split off one by one.
use Rattle.std.proofs.Common.{◌≡◌, ℕ, zero, suc, ◌+◌, ◌-◌, ◌%◌, ◌^◌, ◌<◌, ◌≤◌, Bool, false, cond, ne_eqb, List, [], ◌∷◌, length, sym, refl, ap, ◌∙◌, subst, inl, arith, Option, Some, None, lt_of_not-le}
use mathlib.Core.Option.{some, some-ne-none}
use mathlib.Core.Logic.{dite}
use native.Mathlib.Decide.{ℕ_discrete, dec_le}
use Rattle.std.proofs.lemmas.Bool.{le-ltb, lt-ltb}
use lib.Dec.{ltb}
use lib.ListN.{get_elem?}
use Rattle.atomic_table.specs.Table.{Me, Splits, opening}
use Rattle.turn_cell.specs.declared.act.Act.{Act}
use Rattle.turn_cell.specs.declared.view.View.{View}
use Rattle.turn_cell.specs.Views.{hand, fresh, first_hand, later_hands, is_busy, times, resting}
use Rattle.turn_cell.specs.Turns.{AllFollow, Orderly}
use Rattle.turn_cell.specs.Seats.{named_in}
use Rattle.turn_cell.proofs.Logs.{follows_self, times_same}
use Rattle.turn_cell.proofs.Places.{only}
use Rattle.turn_cell.proofs.Parts.{splits}

times_fresh : (n a k : ℕ) → (n < a → times n (fresh a k) ≡ 0) × (a ≤ n → n < a + k → times n (fresh a k) ≡ 1) × (a + k ≤ n → times n (fresh a k) ≡ 0)
times_fresh n a zero = ((λ _. refl), (λ le lt. absurd (omega arith)), λ _. refl)
times_fresh n a (suc k) = let t = times_fresh n (a + 1) k in dite (ℕ_discrete a n)
    (λ e. let one : times n (fresh a (suc k)) ≡ 1 + times n (fresh (a + 1) k) = times_same n (hand a []) (fresh (a + 1) k) e in let none = t.0 (omega arith) in
    ((λ lt. absurd (omega arith)), (λ _ _. omega arith), λ lt. absurd (omega arith)))
    (λ ne. let other : times n (fresh a (suc k)) ≡ times n (fresh (a + 1) k) = ap (λ (b : Bool). cond b 1 0 + times n (fresh (a + 1) k)) (ne_eqb a n ne) ∙ omega arith in
    ((λ lt. other ∙ t.0 (omega arith)), (λ le lt. other ∙ t.1 (omega arith) (omega arith)), λ le. other ∙ t.2 (omega arith)))

numbers_fresh : (n k : ℕ) → times n (fresh 0 k) ≡ cond (ltb n k) 1 0
numbers_fresh n k = let t = times_fresh n 0 k in dite (dec_le k n)
    (λ above. t.2 (omega arith) ∙ ap (λ (b : Bool). cond b 1 0) (sym (le-ltb n k above)))
    (λ below. let lt : n < k = lt_of_not-le below in t.1 (omega arith) (omega arith) ∙ ap (λ (b : Bool). cond b 1 0) (sym (lt-ltb n k lt)))

pub length-fresh : (a k : ℕ) → length (fresh a k) ≡ k
length-fresh a zero = refl
length-fresh a (suc k) = ap suc (length-fresh (a + 1) k)

follow_fresh : (a k : ℕ) → AllFollow [] (fresh a k)
follow_fresh a zero = tt
follow_fresh a (suc k) = (follows_self a [], follow_fresh (a + 1) k)

pub starts : {T O : Type 0} (opened : T → O) (acts : T → List Act) (seats : ℕ) (value : T) → acts value ≡ [] → seats < 2 ^ 32
    → Orderly opened acts (opened value) seats (opening (0 ∷ 0 ∷ []) (Some value ∷ []) (resting (Some (opened value)) (fresh 0 seats)))
starts {T} {O} opened acts seats value empty few =
    let w : View O = resting (Some (opened value)) (fresh 0 seats) in
    record {
      log = [];
      line = [];
      served = 0;
      few = few;
      words = refl;
      drawn_word = refl;
      served_word = refl;
      has_place = λ i z t e is. only (λ (z : View O). (t : ℕ) → z.ticket ≡ Some t → (k : ℕ) × (get_elem? [] k ≡ some i) × (t ≡ (0 + k) % 2 ^ 64)) w (λ t is. let n : None ≡ Some t = is in cc) i z e t is;
      has_ticket = λ k i e. absurd (some-ne-none i (sym e));
      busy = refl;
      counted = let l = length-fresh 0 seats in omega arith;
      numbered = λ n. let t : times n (fresh 0 seats) + 0 ≡ times n (fresh 0 seats) = omega arith in t ∙ numbers_fresh n seats;
      handed = only (λ (z : View O). is_busy z.ticket ≤ length z.hands) w (omega arith);
      named = only (λ (z : View O). 0 < length z.hands → z.opening ≡ Some (opened value)) w (λ _. refl);
      follow = only (λ (z : View O). AllFollow [] z.hands) w (follow_fresh 0 seats);
      unmade = λ n _. refl;
      place = inl record {
        value = value;
        home = refl;
        opening_is = refl;
        log_is = empty;
        no_turn = only (λ (z : View O). z.turn ≡ false) w refl;
      };
    }

-- the same, for a value that was remembered and a slot that was pushed
pub starts_with : {T O : Type 0} (opened : T → O) (acts : T → List Act) (seats : ℕ) (value remembered : T) (slots : List (Option T)) → acts value ≡ [] → seats < 2 ^ 32
    → slots ≡ Some value ∷ [] → remembered ≡ value
    → Orderly opened acts (opened remembered) seats (opening (0 ∷ 0 ∷ []) slots (resting (Some (opened remembered)) (fresh 0 seats)))
starts_with {T} {O} opened acts seats value remembered slots empty few is same =
    subst (λ (z : T × List (Option T)). Orderly opened acts (opened z.0) seats (opening (0 ∷ 0 ∷ []) z.1 (resting (Some (opened z.0)) (fresh 0 seats))))
    (λ i. (sym same i, sym is i)) (starts opened acts seats value empty few)

pub splits_fresh : {T O : Type 0} (opened : T → O) (acts : T → List Act) (origin : O) (all id n k seats : ℕ) (me : Me (Option T) (View O)) → me ≡ (resting (named_in me) (fresh n k), []) → k ≡ suc seats
    → Splits (Orderly opened acts origin all) id me.0 (resting me.0.opening (later_hands me.0.hands)) (resting me.0.opening (first_hand me.0.hands))
splits_fresh {T} {O} opened acts origin all id n k seats me is more =
    let e : me.0 ≡ resting (named_in me) (hand n [] ∷ fresh (n + 1) seats) = ap (λ (m : Me (Option T) (View O)). m.0) is ∙ ap (λ (j : ℕ). resting (named_in me) (fresh n j)) more in
    subst (λ (v : View O). Splits (Orderly opened acts origin all) id v (resting v.opening (later_hands v.hands)) (resting v.opening (first_hand v.hands))) (sym e)
    (splits opened acts origin all id (named_in me) (hand n []) (fresh (n + 1) seats))

-- one more seat split off a seat with fresh numbers
pub one_dealt : {T O : Type 0} (n seats : ℕ) (root left right : Me (Option T) (View O)) → root ≡ (resting (named_in root) (fresh n (seats - n)), []) → n + 1 ≤ seats
    → left ≡ (resting root.0.opening (later_hands root.0.hands), root.1) → right ≡ (resting root.0.opening (first_hand root.0.hands), [])
    → (named_in left ≡ named_in root) × (left ≡ (resting (named_in left) (fresh (n + 1) (seats - (n + 1))), [])) × (right ≡ (resting (named_in root) (hand n [] ∷ []), []))
one_dealt {T} {O} n seats root left right is below l r =
    let k : ℕ = seats - (n + 1) in
    let more : seats - n ≡ suc k = omega arith in
    let e : root ≡ (resting (named_in root) (hand n [] ∷ fresh (n + 1) k), []) = is ∙ ap (λ (j : ℕ). (resting (named_in root) (fresh n j), [])) more in
    let left_is : left ≡ (resting (named_in root) (fresh (n + 1) k), []) = l ∙ ap (λ (m : Me (Option T) (View O)). (resting m.0.opening (later_hands m.0.hands), m.1)) e in
    let right_is : right ≡ (resting (named_in root) (hand n [] ∷ []), []) = r ∙ ap (λ (m : Me (Option T) (View O)). (resting m.0.opening (first_hand m.0.hands), [])) e in
    let same : named_in left ≡ named_in root = ap (λ (m : Me (Option T) (View O)). m.0.opening) left_is in
    (same, left_is ∙ ap (λ (o : Option O). (resting o (fresh (n + 1) k), [])) (sym same), right_is)

-- the last seat keeps the last number
pub last_dealt : {T O : Type 0} (n seats : ℕ) (root : Me (Option T) (View O)) → root ≡ (resting (named_in root) (fresh n (seats - n)), []) → n + 1 ≡ seats → root ≡ (resting (named_in root) (hand n [] ∷ []), [])
last_dealt n seats root is one = is ∙ ap (λ (j : ℕ). (resting (named_in root) (fresh n j), [])) (let e : seats - n ≡ 1 = omega arith in e)
