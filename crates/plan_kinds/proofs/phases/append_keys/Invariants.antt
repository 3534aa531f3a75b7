use Rattle.std.proofs.Common.{◌≡◌, ◌++◌, drop}
use Rattle.logical_plan.specs.Body.{key_kinds}
use Rattle.plan_kinds.specs.Phases.{has_columns}
use Rattle.plan_kinds.proofs.phases.append_keys.Given as goal

abbrev pub invariant-loop-key : goal.invariant-loop-key
invariant-loop-key l = record {
  there : has_columns l.columns (drop l.key-index l.keys) ≡ has_columns l.columns l.keys;
  same : l.kinds.items ++ key_kinds l.columns (drop l.key-index l.keys) ≡ l.fn.kinds.items ++ key_kinds l.columns l.keys;
}
