use Rattle.std.proofs.Common.{◌≡◌, drop}
use Rattle.expr_binder.specs.Same as spec
use Rattle.expr_binder.proofs.equality.place_among.Given as goal

-- none so far
abbrev pub invariant-loop-place : goal.invariant-loop-place
invariant-loop-place l = spec.place_from l.columns l.expr l.place (drop l.place l.among) ≡ spec.place_among l.columns l.expr l.among
