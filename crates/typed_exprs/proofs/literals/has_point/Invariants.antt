use Rattle.std.proofs.Common.{◌≡◌, drop}
use Rattle.typed_exprs.specs.Literals as spec
use Rattle.typed_exprs.proofs.literals.has_point.Given as goal

-- none so far
abbrev pub invariant-loop-byte : goal.invariant-loop-byte
invariant-loop-byte l = spec.has_point (drop l.byte-index l.text) ≡ spec.has_point l.text
