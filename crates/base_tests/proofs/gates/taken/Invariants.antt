use Rattle.std.proofs.Common.{◌≡◌, length}
use Rattle.base_tests.proofs.gates.taken.Given as goal

abbrev pub invariant-loop-tasks : goal.invariant-loop-tasks
invariant-loop-tasks l = l.woken.room ≡ l.fn.woken.room

abbrev pub decreases-loop-tasks : goal.decreases-loop-tasks
decreases-loop-tasks l = length l.woken.tasks
