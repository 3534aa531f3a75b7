use Rattle.std.proofs.Common.{◌≡◌, drop}
use Rattle.typed_exprs.specs.Case as spec
use Rattle.typed_exprs.proofs.case.test_all.Given as goal

-- truths so far
abbrev pub invariant-loop-arm : goal.invariant-loop-arm
invariant-loop-arm l = spec.tests (drop l.arm-index l.arms) ≡ spec.tests l.arms
