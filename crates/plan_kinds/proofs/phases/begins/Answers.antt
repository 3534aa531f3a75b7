use Rattle.std.proofs.Common.{sym, ◌∙◌}
use Rattle.plan_kinds.proofs.Ends.{begins_ends}
use Rattle.plan_kinds.proofs.phases.begins.Goals as goal

pub returns-in-None : goal.returns-in-None
returns-in-None c = sym (begins_ends c.args.wanted.now c.loop-kind.left.now c.loop-kind.kind-index c.loop-kind-test.true c.in-None.ensures.cases) ∙ c.loop-kind.invariant
