use Rattle.std.proofs.Common.{◌≡◌, drop}
use Rattle.plan_kinds.specs.Phases as spec
use Rattle.plan_kinds.proofs.phases.begins.Given as goal

abbrev pub invariant-loop-kind : goal.invariant-loop-kind
invariant-loop-kind l = spec.begins (drop l.kind-index l.wanted) l.left ≡ spec.begins l.wanted l.kinds
