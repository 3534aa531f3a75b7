use Rattle.std.proofs.Common.{◌≡◌, drop}
use Rattle.typed_exprs.specs.Literals as spec
use Rattle.typed_exprs.proofs.literals.without_zeros.Given as goal

-- zeros so far
abbrev pub invariant-loop-place : goal.invariant-loop-place
invariant-loop-place l = spec.without_zeros (drop l.place l.digits) ≡ spec.without_zeros l.digits
