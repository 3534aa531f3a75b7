use Rattle.std.proofs.Common.{refl}
use Rattle.task_stations.specs.Scans.{IsScan}
use Rattle.task_stations.proofs.TaskReplies.{gone}
use Rattle.task_stations.proofs.task.refuse.Goals as goal

pub returns-clause-is : goal.returns-clause-is
returns-clause-is g c = λ first most k channel batch.
    gone g.C.Splitter.cuts g.S.RowSink.lines first g.T.Operator.stands (IsScan g.F.RowFile.source g.F.RowFile.left most) most c.args.task.now (record c.args.task.now { leaving = c.either-task.result }) k refl refl refl refl c.args.last c.either-task.ensures channel batch
