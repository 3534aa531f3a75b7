use Rattle.std.proofs.Common.{◌≡◌, drop}
use Rattle.logical_build.specs.Unions as spec
use Rattle.logical_build.proofs.unions.all_unified.Given as goal

-- those so far, and the rest
abbrev pub invariant-loop-at : goal.invariant-loop-at
invariant-loop-at l = spec.unified_after l.kinds.items (drop l.at l.left) (drop l.at l.right) ≡ spec.all_unified l.left l.right
