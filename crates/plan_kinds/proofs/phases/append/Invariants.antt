use Rattle.std.proofs.Common.{◌≡◌, ◌++◌, take}
use Rattle.plan_kinds.proofs.phases.append.Given as goal

abbrev pub invariant-loop-kind : goal.invariant-loop-kind
invariant-loop-kind l = l.kinds.items ≡ l.fn.kinds.items ++ take l.kind-index l.more
