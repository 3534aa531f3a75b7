use Rattle.std.proofs.Common.{length, ◌+◌, ◌*◌, ◌^◌}
use Rattle.task_stations.proofs.steps.+reply.Given as goal

abbrev pub decreases-reply : goal.decreases-reply
decreases-reply g l = 2 ^ 65 * length l.stations.now

abbrev pub decreases-reply_below : goal.decreases-reply_below
decreases-reply_below g l = 2 ^ 65 * length l.stations.now + length l.sizes.now + 1
