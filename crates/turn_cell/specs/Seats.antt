-- Words: what the calls of a cell ask and say of what a seat knows.
use Rattle.std.specs.Prelude.{◌≡◌, ℕ, List, [], ◌∷◌, Option, None}
use Rattle.atomic_table.specs.Table.{Me}
use Rattle.turn_cell.specs.declared.act.Act.{Act}
use Rattle.turn_cell.specs.declared.view.View.{View}
use Rattle.turn_cell.specs.Views.{hand, resting, waiting, at_turn, seen_in}

module _ {S O : Type 0} where
  -- the opening of the runs that the seat takes
  abbrev pub named_in : Me S (View O) → Option O
  named_in me = me.0.opening

  -- the acts that the seat has seen
  abbrev pub seen_at : Me S (View O) → List Act
  seen_at me = seen_in me.0.hands

  -- the seat has the number n and no ticket
  abbrev pub Idles : ℕ → Me S (View O) → Type 0
  Idles n me = me ≡ (resting (named_in me) (hand n (seen_at me) ∷ []), [])

  -- it has the ticket x
  abbrev pub Waits : ℕ → ℕ → Me S (View O) → Type 0
  Waits x n me = me ≡ (waiting (named_in me) x (hand n (seen_at me) ∷ []), [])

  -- it names the same opening, and has seen the same acts
  abbrev pub KnowsSame : Me S (View O) → Me S (View O) → Type 0
  KnowsSame before after = (named_in after ≡ named_in before) × (seen_at after ≡ seen_at before)

module _ {T O : Type 0} where
  -- it has the turn, and the empty slot is out with it
  abbrev pub Serves : ℕ → Me (Option T) (View O) → Type 0
  Serves n me = (x : ℕ) × (me ≡ (at_turn (named_in me) x (hand n (seen_at me) ∷ []), (0, None) ∷ []))
