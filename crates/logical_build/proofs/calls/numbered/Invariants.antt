use Rattle.std.proofs.Common.{◌≡◌, ◌++◌, map, drop}
use Rattle.logical_build.specs.Calls as spec
use Rattle.logical_build.proofs.calls.numbered.Given as goal

-- those so far, and the rest
abbrev pub invariant-loop-call : goal.invariant-loop-call
invariant-loop-call l = l.numbered ++ spec.numbered l.column (map spec.argument (drop l.call-index l.calls)) ≡ spec.numbered l.first (map spec.argument l.calls)
