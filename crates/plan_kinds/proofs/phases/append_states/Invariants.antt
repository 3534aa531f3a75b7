use Rattle.std.proofs.Common.{◌≡◌, ◌++◌, drop}
use Rattle.plan_kinds.specs.Phases.{calls_fit, states_kinds}
use Rattle.plan_kinds.proofs.phases.append_states.Given as goal

abbrev pub invariant-loop-call : goal.invariant-loop-call
invariant-loop-call l = record {
  fit : calls_fit l.columns (drop l.call-index l.calls) ≡ calls_fit l.columns l.calls;
  same : l.kinds.items ++ states_kinds (drop l.call-index l.calls) l.columns ≡ l.fn.kinds.items ++ states_kinds l.calls l.columns;
}
