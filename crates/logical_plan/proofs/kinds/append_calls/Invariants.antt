use Rattle.std.proofs.Common.{◌≡◌, ◌++◌, drop}
use Rattle.logical_plan.specs.Body as spec
use Rattle.logical_plan.proofs.kinds.append_calls.Given as goal

abbrev pub invariant-loop-call : goal.invariant-loop-call
invariant-loop-call l = l.kinds.items ++ spec.call_kinds l.columns (drop l.call-index l.calls) ≡ l.fn.kinds.items ++ spec.call_kinds l.columns l.calls
