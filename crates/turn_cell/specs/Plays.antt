-- Words: what each step tells its seat.
use Rattle.std.specs.Prelude.{◌≡◌, ℕ, List, [], ◌∷◌, Option, Some}
use Rattle.atomic_table.specs.Table.{Me, Step}
use Rattle.turn_cell.specs.declared.act.Act.{Act}
use Rattle.turn_cell.specs.declared.view.Hand.{Hand}
use Rattle.turn_cell.specs.declared.view.View.{View}
use Rattle.turn_cell.specs.Acts.{Follows}
use Rattle.turn_cell.specs.Views.{hand, resting, waiting, at_turn, later_hands, number_in, seen_in}

-- the first hand has now seen these acts
abbrev pub sees : List Act → List Hand → List Hand
sees log hands = hand (number_in hands) log ∷ later_hands hands

module _ {T O : Type 0} where
  -- the ticket that was found
  abbrev pub drawn : Step (Option T) → Me (Option T) (View O) → ℕ → Me (Option T) (View O) → Type 0
  drawn st me found after = after ≡ (waiting me.0.opening found me.0.hands, me.1)

  module _ (opened : T → O) (acts : T → List Act) where
    -- the turn begins with this value
    pub record Begins (me : Me (Option T) (View O)) (x : ℕ) (after : Me (Option T) (View O)) : Type 0 where
      pub value : T
      pub after_is : after ≡ (at_turn me.0.opening x (sees (acts value) me.0.hands), (0, Some value) ∷ [])
      pub opening_is : me.0.opening ≡ Some (opened value)
      pub follows : Follows (number_in me.0.hands) (seen_in me.0.hands) (acts value)

    abbrev pub looked : Step (Option T) → Me (Option T) (View O) → ℕ → Me (Option T) (View O) → Type 0
    looked st me found after = (me.0.ticket ≡ Some found → Begins me found after) × (¬ (me.0.ticket ≡ Some found) → after ≡ me)

    -- the turn ends, and the value that was put has been seen
    abbrev pub passed : Step (Option T) → Me (Option T) (View O) → ℕ → Me (Option T) (View O) → Type 0
    passed st me found after = (value : T) → me.1 ≡ (0, Some value) ∷ [] → after ≡ (resting me.0.opening (sees (acts value) me.0.hands), [])
