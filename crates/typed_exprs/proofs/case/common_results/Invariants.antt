use Rattle.std.proofs.Common.{◌≡◌, None, drop}
use Rattle.typed_exprs.specs.Case as spec
use Rattle.typed_exprs.specs.Typed.{common_after}
use Rattle.typed_exprs.proofs.case.common_results.Given as goal

-- what is left answers as the whole
abbrev pub invariant-loop-arm : goal.invariant-loop-arm
invariant-loop-arm l = common_after l.found (spec.results (drop l.arm-index l.arms) l.other) ≡ common_after None (spec.results l.arms l.other)
