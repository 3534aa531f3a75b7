use Rattle.std.proofs.Common.{◌≡◌, None}
use Rattle.turn_cell.specs.Acts.{IsPrefix}
use Rattle.turn_cell.specs.Cells.{IsSameSeat, IsIdle, number_of, seen_of}
use Rattle.turn_cell.specs.Loans.{loan_of}
use Rattle.work_pool.proofs.pool.run_worker.Given as goal

abbrev pub invariant-loop : goal.invariant-loop
invariant-loop g l =
    (goal.iterator-loop g).can_next l.iterator' × (goal.iterator-loop g).is_finite l.iterator'
    × IsSameSeat l.fn.seat l.seat
    × IsIdle l.seat
    × IsPrefix (seen_of l.fn.seat) (seen_of l.seat)
    × (loan_of (number_of l.seat) (seen_of l.seat) ≡ None)
