use Rattle.std.proofs.Common.{sym, ◌∙◌}
use Rattle.plan_kinds.proofs.Ends.{same_ends}
use Rattle.plan_kinds.proofs.kinds.same_kinds.Goals as goal

pub returns-in-None : goal.returns-in-None
returns-in-None c = sym (same_ends c.args.left.now c.loop-kind.others.now c.loop-kind.kind-index c.loop-kind-test.true c.in-None.ensures.cases) ∙ c.loop-kind.invariant
