use Rattle.std.proofs.Common.{◌≡◌, ◌++◌, reverse, length}
use Rattle.task_plans.proofs.tasks.reversed.Given as goal

abbrev pub invariant-loop-station : goal.invariant-loop-station
invariant-loop-station l = l.all ++ reverse l.stations ≡ reverse l.fn.stations

abbrev pub decreases-loop-station : goal.decreases-loop-station
decreases-loop-station l = length l.stations
