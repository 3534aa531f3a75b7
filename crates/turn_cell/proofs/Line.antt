-- What the rule says of the seats that have a ticket, and of the numbers.
use Rattle.std.proofs.Common.{◌≡◌, ℕ, suc, ◌+◌, ◌%◌, ◌^◌, ◌<◌, ◌≤◌, ◌≢◌, Bool, true, false, cond, List, ◌∷◌, length, get_or, sym, refl, ap, ◌∙◌, subst, arith, Option, Some, lt_of_not-le}
use mathlib.Core.Option.{some, some-injective}
use mathlib.Core.Logic.{dite}
use native.Mathlib.Decide.{dec_le}
use Rattle.std.proofs.lemmas.Bool.{le-ltb}
use lib.Dec.{ltb}
use lib.ListN.{get_elem?}
use Rattle.atomic_table.specs.Table.{State}
use Rattle.atomic_table.proofs.Lists.{at_set, set_here, set_else, set_again, at_longer, at_last, at_snoc, one_turn}
use Rattle.turn_cell.specs.declared.act.Act.{Act}
use Rattle.turn_cell.specs.declared.view.Hand.{Hand}
use Rattle.turn_cell.specs.declared.view.View.{View}
use Rattle.turn_cell.specs.Views.{is_busy, times, total}
use Rattle.turn_cell.specs.Turns.{Orderly}
use Rattle.turn_cell.proofs.Sums.{term_le, total_le, found_below}
use Rattle.turn_cell.proofs.Logs.{times_same}

module _ {T O : Type 0} (opened : T → O) (acts : T → List Act) (origin : O) (seats : ℕ) where
  abbrev St : Type 0
  St = State (Option T) (View O)

  abbrev V : Type 0
  V = View O

  abbrev Rule : St → Type 0
  Rule s = Orderly opened acts origin seats s

  pub line_short : (s : St) (r : Rule s) → length r.line < 2 ^ 32
  line_short s r = let few = r.few in let c = r.counted in let b = r.busy in
      omega (arith, total_le (λ (v : V). is_busy v.ticket) (λ (v : V). length v.hands) s.views r.handed)

  -- who has the ticket that is served stands first in the line
  pub first_in_line : (s : St) (r : Rule s) (id x : ℕ) (v : V) → get_elem? s.views id ≡ some v → v.ticket ≡ Some x → x ≡ get_or s.words 1 0 → get_elem? r.line 0 ≡ some id
  first_in_line s r id x v at is now =
      let p = r.has_place id v x at is in
      let small : p.0 < 2 ^ 32 = omega (arith, found_below r.line p.0 id p.1, line_short s r) in
      let same : r.served ≡ r.served + p.0 = Rattle.atomic_table.proofs.Lists.one_turn r.served (r.served + p.0) (2 ^ 64) (omega arith) (omega arith) (sym r.served_word ∙ (sym now ∙ p.2)) in
      let zero_place : p.0 ≡ 0 = omega arith in
      subst (λ (k : ℕ). get_elem? r.line k ≡ some id) zero_place p.1

  -- the number of a hand that a view has is below the number of seats, and no other hand has it
  pub number_below : (s : St) (r : Rule s) (id : ℕ) (v : V) (h : Hand) (hs : List Hand) → get_elem? s.views id ≡ some v → v.hands ≡ h ∷ hs → h.number < seats
  number_below s r id v h hs at is = dite (dec_le seats h.number)
      (λ above. let none_such : cond (ltb h.number seats) 1 0 ≡ 0 = ap (λ (b : Bool). cond b 1 0) (le-ltb h.number seats above) in
      let all : total (λ (u : V). times h.number u.hands) s.views ≡ 0 = r.numbered h.number ∙ none_such in
      let one : times h.number v.hands ≡ 1 + times h.number hs = ap (times h.number) is ∙ times_same h.number h hs refl in
      absurd (omega (arith, term_le (λ (u : V). times h.number u.hands) s.views id v at)))
      (λ no. lt_of_not-le no)

  pub at_most_one : (s : St) (r : Rule s) (n : ℕ) → total (λ (u : V). times n u.hands) s.views ≤ 1
  at_most_one s r n = elim (ltb n seats) as (λ b. total (λ (u : V). times n u.hands) s.views ≡ cond b 1 0 → total (λ (u : V). times n u.hands) s.views ≤ 1) [ true ↦ λ e. omega arith | false ↦ λ e. omega arith ] (r.numbered n)

  -- no seat stands twice in the line
  pub twice : (s : St) (r : Rule s) (id i k : ℕ) → get_elem? r.line 0 ≡ some id → get_elem? r.line (suc k) ≡ some i → i ≢ id
  twice s r id i k first later same =
      let p = r.has_ticket 0 id first in
      let q = r.has_ticket (suc k) i later in
      let view_same : p.0 ≡ q.0 = some-injective p.0 q.0 (sym p.1 ∙ (ap (λ (j : ℕ). get_elem? s.views j) (sym same) ∙ q.1)) in
      let tickets : Some ((r.served + 0) % 2 ^ 64) ≡ Some ((r.served + suc k) % 2 ^ 64) = sym p.2 ∙ (ap (λ (u : V). u.ticket) view_same ∙ q.2) in
      let small : suc k < 2 ^ 32 = omega (arith, found_below r.line (suc k) i later, line_short s r) in
      let e : r.served + 0 ≡ r.served + suc k = Rattle.atomic_table.proofs.Lists.one_turn (r.served + 0) (r.served + suc k) (2 ^ 64) (omega arith) (omega arith) (let t : (r.served + 0) % 2 ^ 64 ≡ (r.served + suc k) % 2 ^ 64 = cc in t) in
      omega arith
