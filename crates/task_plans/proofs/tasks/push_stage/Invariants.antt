use Rattle.std.proofs.Common.{◌≡◌, true, take}
use Rattle.plan_task_laws.specs.Trees.{Doing, partitions_of}
use Rattle.plan_task_laws.specs.Starts.{split_by, tasks_by}
use Rattle.task_plans.specs.Built.{is_built}
use Rattle.task_plans.specs.Added.{AddsTasks, way_of}
use Rattle.task_plans.proofs.tasks.push_stage.Given as goal

abbrev pub invariant-loop-partition : goal.invariant-loop-partition
invariant-loop-partition l =
    (f : Doing) → is_built l.plan ≡ true
    → AddsTasks f l.fn.tasks l.tasks (tasks_by (split_by f (way_of l.fn.way)) 0 0 (take l.partition (partitions_of f l.plan l.fn.at.stage l.fn.at.source)))
