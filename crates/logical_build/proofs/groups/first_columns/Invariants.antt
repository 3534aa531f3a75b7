use Rattle.std.proofs.Common.{◌≡◌}
use Rattle.logical_build.specs.Groups as spec
use Rattle.logical_build.proofs.groups.first_columns.Given as goal

-- those so far
abbrev pub invariant-loop-column : goal.invariant-loop-column
invariant-loop-column l = l.columns ≡ spec.first_columns l.column
