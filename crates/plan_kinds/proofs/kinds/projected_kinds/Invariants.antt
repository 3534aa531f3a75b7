use Rattle.std.proofs.Common.{◌≡◌, ◌++◌, drop}
use Rattle.logical_plan.specs.Body.{item_kinds}
use Rattle.plan_kinds.specs.Kinds.{all_have_kinds}
use Rattle.plan_kinds.proofs.kinds.projected_kinds.Given as goal

abbrev pub invariant-loop-item : goal.invariant-loop-item
invariant-loop-item l = record {
  kinded : all_have_kinds l.columns (drop l.item-index l.items) ≡ all_have_kinds l.columns l.items;
  same : l.kinds.items ++ item_kinds l.columns (drop l.item-index l.items) ≡ item_kinds l.columns l.items;
}
