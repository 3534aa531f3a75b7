-- Words: what clauses say of a cell and of a seat.
use Rattle.std.specs.Prelude.{◌≡◌, ℕ, List, [], ◌∷◌, Option, Some}
use Rattle.atomic_table.specs.Seated.{TableId}
use Rattle.turn_cell.specs.declared.act.Act.{Act}
use Rattle.turn_cell.specs.declared.holders.Seat.{Seat}
use Rattle.turn_cell.specs.declared.holders.TurnCell.{TurnCell}
use Rattle.turn_cell.specs.Views.{hand, resting}
use Rattle.turn_cell.specs.Seats.{named_in, seen_at, Idles, Waits, Serves}

module _ {T O : Type 0} where
  -- how many seats it has
  abbrev pub seats_of : TurnCell T O → ℕ
  seats_of cell = cell.seats

  -- the value that the cell began with
  abbrev pub first_value : TurnCell T O → T
  first_value cell = cell.table.shared.key.value.value

  abbrev pub IsSeatOf : TurnCell T O → Seat T O → Type 0
  IsSeatOf cell seat = seat.place.table_id ≡ cell.table.shared.table_id

  abbrev pub number_of : Seat T O → ℕ
  number_of seat = seat.number

  -- the opening of each value that the seat takes
  abbrev pub opening_of : Seat T O → Option O
  opening_of seat = named_in seat.place.me

  -- the acts that the seat has seen
  abbrev pub seen_of : Seat T O → List Act
  seen_of seat = seen_at seat.place.me

  -- it has no ticket and no turn
  abbrev pub IsIdle : Seat T O → Type 0
  IsIdle seat = Idles seat.number seat.place.me

  abbrev pub HasTicket : ℕ → Seat T O → Type 0
  HasTicket x seat = Waits x seat.number seat.place.me

  abbrev pub HasTurn : Seat T O → Type 0
  HasTurn seat = Serves seat.number seat.place.me

  -- the same seat, later
  abbrev pub IsSameSeat : Seat T O → Seat T O → Type 0
  IsSameSeat before after =
      (after.number ≡ before.number) × (after.place.table_id ≡ before.place.table_id)
      × (opening_of after ≡ opening_of before)

  -- the seat of this table with the number n, which has seen nothing
  abbrev pub IsDealt : Option O → TableId → ℕ → Seat T O → Type 0
  IsDealt o table n seat =
      (seat.number ≡ n) × (seat.place.table_id ≡ table) × (seat.place.me ≡ (resting o (hand n [] ∷ []), []))

  -- the same of this cell
  abbrev pub IsNew : TurnCell T O → O → ℕ → Seat T O → Type 0
  IsNew cell o n seat = IsDealt (Some o) cell.table.shared.table_id n seat
