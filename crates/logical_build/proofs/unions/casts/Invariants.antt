use Rattle.std.proofs.Common.{◌≡◌, ◌++◌, drop}
use Rattle.logical_build.specs.Unions as spec
use Rattle.logical_build.proofs.unions.casts.Given as goal

-- those so far, and the rest
abbrev pub invariant-loop-column : goal.invariant-loop-column
invariant-loop-column l = l.items ++ spec.casts l.column (drop l.column l.unified) (drop l.column l.kinds) ≡ spec.casts 0 l.unified l.kinds
