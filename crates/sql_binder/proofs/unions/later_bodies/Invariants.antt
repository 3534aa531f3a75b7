use Rattle.std.proofs.Common.{◌≡◌}
use Rattle.sql_binder.specs.Unions as spec
use Rattle.sql_binder.proofs.unions.later_bodies.Given as goal

-- those so far
abbrev pub invariant-loop-selected : goal.invariant-loop-selected
invariant-loop-selected l = l.inputs ≡ spec.bodies l.unified l.yielded
