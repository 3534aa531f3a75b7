use Rattle.std.proofs.Common.{◌≡◌, ◌<◌, ◌++◌, ◌-◌}
use Rattle.std.specs.Prelude.{◌%◌}
use Rattle.task_plans.specs.Dealt.{dealt_from, dealt}
use Rattle.task_plans.proofs.scans.dealt_files.Given as goal

abbrev pub invariant-loop-number : goal.invariant-loop-number
invariant-loop-number l = record {
  own : l.number < l.files → l.number % l.partitions ≡ l.partition;
  rest : l.all ++ dealt_from l.source l.files l.partitions l.partition l.number ≡ dealt l.source l.files l.partitions l.partition;
}

abbrev pub decreases-loop-number : goal.decreases-loop-number
decreases-loop-number l = l.files - l.number
