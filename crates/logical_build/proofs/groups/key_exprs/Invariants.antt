use Rattle.std.proofs.Common.{◌≡◌}
use Rattle.logical_build.specs.Groups as spec
use Rattle.logical_build.proofs.groups.key_exprs.Given as goal

-- those so far
abbrev pub invariant-loop-expr : goal.invariant-loop-expr
invariant-loop-expr l = l.exprs ≡ spec.exprs l.yielded
