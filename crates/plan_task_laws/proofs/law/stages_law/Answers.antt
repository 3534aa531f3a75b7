use Rattle.plan_task_laws.proofs.Placed.{placed, stage_is, feeds}
use Rattle.plan_task_laws.proofs.Senders.{covered}
use Rattle.plan_task_laws.proofs.law.stages_law.Goals as goal

pub returns : goal.returns
returns c = record { covered = covered; placed = placed; stage = stage_is; feeds = feeds }
