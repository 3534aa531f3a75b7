use Rattle.std.proofs.Common.{◌≡◌, drop}
use Rattle.typed_exprs.specs.Typed as spec
use Rattle.typed_exprs.proofs.unify.common_after.Given as goal

-- what is left answers as the whole
abbrev pub invariant-loop-part : goal.invariant-loop-part
invariant-loop-part l = spec.common_after l.found (drop l.part-index l.parts) ≡ spec.common_after l.fn.before l.parts
