use Rattle.std.proofs.Common.{◌≡◌}
use Rattle.logical_build.specs.Outputs as spec
use Rattle.logical_build.proofs.outputs.taken_apart.Given as goal

-- those so far
abbrev pub invariant-loop-output : goal.invariant-loop-output
invariant-loop-output l = record {
  names : l.names.items ≡ spec.names l.yielded;
  exprs : l.exprs ≡ spec.exprs l.yielded;
  kinds : l.kinds.items ≡ spec.kinds l.yielded;
}
