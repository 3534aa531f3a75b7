use Rattle.std.proofs.Common.{◌≡◌, drop}
use Rattle.dfx_value.specs.Kinds.{are_kinds}
use Rattle.scan_run.proofs.chain.are_kinds.Given as goal

abbrev pub invariant-loop-kind : goal.invariant-loop-kind
invariant-loop-kind l = are_kinds (drop l.kind-index l.kinds) ≡ are_kinds l.kinds
