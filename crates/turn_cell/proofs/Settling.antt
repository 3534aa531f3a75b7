-- The seat that has all numbers finds the value at home.
use Rattle.std.proofs.Common.{◌≡◌, ℕ, ◌+◌, ◌%◌, ◌^◌, ◌<◌, ◌≤◌, ◌≢◌, List, [], ◌∷◌, length, sym, ap, ◌∙◌, subst, ⊎_elim, arith, Option, Some, None}
use mathlib.Core.Option.{some, none, some-injective, some-ne-none}
use lib.ListN.{get_elem?}
use Rattle.atomic_table.specs.Table.{State, Me}
use Rattle.turn_cell.specs.declared.act.Act.{Act}
use Rattle.turn_cell.specs.declared.view.Hand.{Hand}
use Rattle.turn_cell.specs.declared.view.View.{View}
use Rattle.turn_cell.specs.Acts.{acts_by}
use Rattle.turn_cell.specs.Views.{is_busy, resting}
use Rattle.turn_cell.specs.Turns.{AllFollow, IsHome, IsOut, Orderly}
use Rattle.turn_cell.specs.Seats.{named_in}
use Rattle.turn_cell.proofs.Sums.{terms_le}
use Rattle.turn_cell.proofs.Places.{differ}
use Rattle.atomic_table.specs.Table.{Final, Seen}

module _ {T O : Type 0} (opened : T → O) (acts : T → List Act) (origin : O) (seats : ℕ) where
  abbrev St : Type 0
  St = State (Option T) (View O)

  abbrev V : Type 0
  V = View O

  abbrev Rule : St → Type 0
  Rule s = Orderly opened acts origin seats s

  -- the seat that has all hands, and no ticket, finds the value at home
  pub settles : (s : St) → Rule s → (id : ℕ) (o : Option O) (hands : List Hand) → get_elem? s.views id ≡ some (resting o hands) → length hands ≡ seats → 0 < seats
      → (value : T) × (s.homes ≡ some (Some value) ∷ []) × (opened value ≡ origin) × AllFollow (acts value) hands × ((n : ℕ) → seats ≤ n → acts_by n (acts value) ≡ [])
  settles s r id o hands at all some_seat = ⊎_elim
      (λ (home : IsHome opened acts s origin r.log). (
        home.value,
        home.home,
        home.opening_is,
        subst (λ (l : List Act). AllFollow l hands) (sym home.log_is) (r.follow id (resting o hands) at),
        λ n above. ap (acts_by n) home.log_is ∙ r.unmade n above,
      ))
      (λ (out : IsOut opened acts s r.line r.log).
      let p = r.has_ticket 0 out.seat out.first in
      let busy : is_busy p.0.ticket ≡ 1 = ap is_busy p.2 in
      let apart : out.seat ≢ id = differ s.views out.seat id p.0 (resting o hands) p.1 at (λ same. let n : None ≡ Some ((r.served + 0) % 2 ^ 64) = ap (λ (z : V). z.ticket) (sym same) ∙ p.2 in cc) in
      absurd (omega (arith, r.handed out.seat p.0 p.1, terms_le (λ (z : V). length z.hands) s.views id out.seat (resting o hands) p.0 apart at p.1, r.counted, busy, all)))
      r.place

-- what a closed table holds, where the seat that was handed in has all hands
pub settled : {T O : Type 0} (opened : T → O) (acts : T → List Act) (origin : O) (seats id : ℕ) (me : Me (Option T) (View O)) (words : List ℕ) (slots : List (Option T)) (found : Option T)
    → me ≡ (resting (named_in me) me.0.hands, []) → length me.0.hands ≡ seats → 0 < seats → Final (Seen (Orderly opened acts origin seats) id me.0) words slots → get_elem? slots 0 ≡ some found
    → (value : T) × (found ≡ Some value) × (opened value ≡ origin) × AllFollow (acts value) me.0.hands × ((n : ℕ) → seats ≤ n → acts_by n (acts value) ≡ [])
settled {T} {O} opened acts origin seats id me words slots found is all above final at =
    let s = final.0 in
    let seen = final.1.1 ∙ ap some (ap (λ (m : Me (Option T) (View O)). m.0) is) in
    let t = settles opened acts origin seats s final.1.0 id (named_in me) me.0.hands seen all above in
    let home : get_elem? s.homes 0 ≡ some (some (Some t.0)) = ap (λ (l : List (mathlib.Core.Option.Option (Option T))). get_elem? l 0) t.1 in
    let same : found ≡ Some t.0 = some-injective found (Some t.0) (sym at ∙ final.4 0 (Some t.0) home) in
    (t.0, same, t.2, t.3, t.4)

-- the same, of the value that came out
pub settled_value : {T O : Type 0} (opened : T → O) (acts : T → List Act) (origin : O) (seats id : ℕ) (me : Me (Option T) (View O)) (words : List ℕ) (slots : List (Option T)) (found : Option T) (value : T)
    → me ≡ (resting (named_in me) me.0.hands, []) → length me.0.hands ≡ seats → 0 < seats → Final (Seen (Orderly opened acts origin seats) id me.0) words slots → get_elem? slots 0 ≡ some found → found ≡ Some value
    → (opened value ≡ origin) × AllFollow (acts value) me.0.hands × ((n : ℕ) → seats ≤ n → acts_by n (acts value) ≡ [])
settled_value {T} {O} opened acts origin seats id me words slots found value is all above final at out =
    let t = settled opened acts origin seats id me words slots found is all above final at in
    let same : t.0 ≡ value = let e : Some t.0 ≡ Some value = sym t.1 ∙ out in cc in
    subst (λ (v : T). (opened v ≡ origin) × AllFollow (acts v) me.0.hands × ((n : ℕ) → seats ≤ n → acts_by n (acts v) ≡ [])) same (t.2, t.3, t.4)
