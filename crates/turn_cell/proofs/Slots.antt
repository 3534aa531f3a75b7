-- The slot that a seat holds.
use Rattle.std.proofs.Common.{◌≡◌, ℕ, List, [], ◌∷◌, sym, ap, ◌∙◌, Option, Some, None}
use Rattle.atomic_table.specs.Table.{rest}

abbrev value_or : {T : Type 0} → T → Option T → T
value_or d None = d
value_or d (Some t) = t

abbrev held_or : {T : Type 0} → T → List (ℕ × Option T) → T
held_or d [] = d
held_or d (x ∷ xs) = value_or d x.1

pub held_value : {T : Type 0} (a b : T) (xs ys : List (ℕ × Option T)) → ◌≡◌ {A = List (ℕ × Option T)} ((0, Some a) ∷ xs) ((0, Some b) ∷ ys) → a ≡ b
held_value a b xs ys same = ap (held_or a) same

abbrev slot_in : {T : Type 0} → List (ℕ × Option T) → Option T
slot_in [] = None
slot_in (x ∷ xs) = x.1

-- what the seat that has the turn finds in the slot
pub empty_slot : {T : Type 0} (l : List (ℕ × Option T)) (found : Option T) → l ≡ (0, None) ∷ [] → l ≡ (0, found) ∷ rest l → found ≡ None
empty_slot l found is has = sym (ap slot_in has) ∙ ap slot_in is
