use Rattle.std.proofs.Common.{length, ◌+◌, ◌*◌, ◌^◌}
use Rattle.task_stations.proofs.steps.+step.Given as goal

abbrev pub decreases-step : goal.decreases-step
decreases-step g l = 2 ^ 65 * length l.stations.now

abbrev pub decreases-step_below : goal.decreases-step_below
decreases-step_below g l = 2 ^ 65 * length l.stations.now + length l.sizes.now + 1
