use Rattle.std.proofs.Common.{◌≡◌, take}
use Rattle.logical_build.specs.Groups as spec
use Rattle.logical_build.proofs.groups.key_kinds.Given as goal

-- those so far
abbrev pub invariant-loop-kind : goal.invariant-loop-kind
invariant-loop-kind l = l.kinds.items ≡ spec.key_kinds (take l.kind-index l.keys)
