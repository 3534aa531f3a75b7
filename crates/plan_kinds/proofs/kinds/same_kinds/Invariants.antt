use Rattle.std.proofs.Common.{◌≡◌, drop}
use Rattle.plan_kinds.specs.Kinds as spec
use Rattle.plan_kinds.proofs.kinds.same_kinds.Given as goal

abbrev pub invariant-loop-kind : goal.invariant-loop-kind
invariant-loop-kind l = spec.same_kinds (drop l.kind-index l.left) l.others ≡ spec.same_kinds l.left l.right
