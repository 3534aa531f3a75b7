use Rattle.std.proofs.Common.{◌≡◌, ◌++◌, drop}
use Rattle.logical_plan.specs.Body as spec
use Rattle.logical_plan.proofs.kinds.append_keys.Given as goal

abbrev pub invariant-loop-key : goal.invariant-loop-key
invariant-loop-key l = l.kinds.items ++ spec.key_kinds l.columns (drop l.key-index l.keys) ≡ l.fn.kinds.items ++ spec.key_kinds l.columns l.keys
