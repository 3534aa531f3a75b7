use Rattle.std.proofs.Common.{◌≡◌, drop}
use Rattle.sql_binder.specs.Unions as spec
use Rattle.sql_binder.proofs.unions.common_kinds.Given as goal

-- what is left answers as the whole
abbrev pub invariant-loop-place : goal.invariant-loop-place
invariant-loop-place l = spec.common_kinds l.kinds (drop l.place-index l.later) ≡ spec.common_kinds l.first l.later
