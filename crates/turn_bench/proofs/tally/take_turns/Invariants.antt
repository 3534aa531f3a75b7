use Rattle.turn_cell.specs.Cells.{IsIdle, IsSameSeat}
use Rattle.turn_bench.proofs.tally.take_turns.Given as goal

abbrev pub invariant-loop : goal.invariant-loop
invariant-loop g l =
    (goal.iterator-loop g).can_next l.iterator' × (goal.iterator-loop g).is_finite l.iterator'
    × IsSameSeat l.fn.seat l.seat
    × IsIdle l.seat
