use Rattle.std.proofs.Common.{◌≡◌, ◌++◌, take}
use Rattle.logical_plan.proofs.kinds.append_kinds.Given as goal

abbrev pub invariant-loop-kind : goal.invariant-loop-kind
invariant-loop-kind l = l.kinds.items ≡ l.fn.kinds.items ++ take l.kind-index l.more
