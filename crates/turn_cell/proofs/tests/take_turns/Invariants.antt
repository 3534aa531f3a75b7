use Rattle.turn_cell.specs.Cells.{IsIdle, IsSameSeat}
use Rattle.turn_cell.proofs.tests.take_turns.Given as goal

abbrev pub invariant-loop-turn : goal.invariant-loop-turn
invariant-loop-turn g l = IsSameSeat l.fn.seat l.seat × IsIdle l.seat
