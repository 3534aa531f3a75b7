-- Words: a seat whose worker has ended.
use Rattle.std.specs.Prelude.{◌≡◌, ℕ, List, Some, None}
use Rattle.run_journal.specs.declared.entry.Entry.{Entry}
use Rattle.turn_cell.specs.Acts.{journal_of}
use Rattle.turn_cell.specs.Loans.{loan_of}
use Rattle.turn_cell.specs.declared.holders.Seat.{Seat}
use Rattle.turn_cell.specs.declared.holders.TurnCell.{TurnCell}
use Rattle.turn_cell.specs.Cells.{IsSeatOf, IsIdle, number_of, opening_of, seen_of}

-- the seat of this cell with the number n has seen that the run is over, and has no loan
pub record HasEnded {T O : Type 0} (over : O → List Entry → Type 0) (cell : TurnCell T O) (o : O) (n : ℕ) (seat : Seat T O)
    : Type 0 where
  pub number : number_of seat ≡ n
  pub cell_is : IsSeatOf cell seat
  pub idle : IsIdle seat
  pub opening : opening_of seat ≡ Some o
  pub ended : over o (journal_of (seen_of seat))
  pub free : loan_of (number_of seat) (seen_of seat) ≡ None
