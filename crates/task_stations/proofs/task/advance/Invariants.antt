use Rattle.std.proofs.Common.{◌-◌, ◌≡◌, ℕ, Bool, true, List}
use Rattle.tree_laws.specs.Tasks.{Task as Task_}
use Rattle.task_stations.specs.Lines.{Line}
use Rattle.task_stations.specs.Scans.{IsScan}
use Rattle.task_stations.specs.Names.{are_named}
use Rattle.task_stations.specs.Turns.{IsTask}
use Rattle.task_stations.proofs.TaskTurns.{Turned}
use Rattle.task_stations.proofs.task.advance.Given as goal

-- so far the task stands for what it was after so many turns
abbrev pub invariant-loop-turns : goal.invariant-loop-turns
invariant-loop-turns g l = ((first : List Line) (k : Task_) → IsTask g.C.Splitter.cuts g.S.RowSink.lines first g.T.Operator.stands (IsScan g.F.RowFile.source g.F.RowFile.left l.most) l.fn.task k
    → (now : Task_) × Turned l.most l.turns k now × IsTask g.C.Splitter.cuts g.S.RowSink.lines first g.T.Operator.stands (IsScan g.F.RowFile.source g.F.RowFile.left l.most) l.task now)
    × ((r : ℕ → ℕ → Bool) (h : ℕ → Bool) → are_named r h l.fn.task.stations.items ≡ true → are_named r h l.task.stations.items ≡ true)

abbrev pub decreases-loop-turns : goal.decreases-loop-turns
decreases-loop-turns g l = 18446744073709551615 - l.turns
