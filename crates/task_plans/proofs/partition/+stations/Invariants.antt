use Rattle.std.proofs.Common.{◌≡◌, ◌<◌, true, map, drop}
use Rattle.plan_shape.specs.Counts.{in_all, counts_of}
use Rattle.plan_task_laws.specs.Trees.{Doing}
use Rattle.plan_task_laws.specs.Branches.{union_at}
use Rattle.task_plans.proofs.partition.+stations.Given as goal

abbrev pub invariant-push_in_union-loop-input : goal.invariant-push_in_union-loop-input
invariant-push_in_union-loop-input l = record {
  stations : l.stations ≡ l.fn.stations;
  within : l.fn.partition < (in_all (map counts_of l.inputs)).parts → l.left < (in_all (map counts_of (drop l.input-index l.inputs))).parts;
  found : (f : Doing) → union_at f (drop l.input-index l.inputs) l.place.stage l.place.source l.left
      ≡ union_at f l.inputs l.fn.at.stage l.fn.at.source l.fn.partition;
}
