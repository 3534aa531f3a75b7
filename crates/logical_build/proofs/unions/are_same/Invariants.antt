use Rattle.std.proofs.Common.{◌≡◌, drop}
use Rattle.logical_build.specs.Unions as spec
use Rattle.logical_build.proofs.unions.are_same.Given as goal

-- one so far
abbrev pub invariant-loop-at : goal.invariant-loop-at
invariant-loop-at l = spec.are_same (drop l.at l.left) (drop l.at l.right) ≡ spec.are_same l.left l.right
