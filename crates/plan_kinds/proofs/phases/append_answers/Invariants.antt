use Rattle.std.proofs.Common.{◌≡◌, Some, drop}
use Rattle.plan_kinds.specs.Phases.{answer_kinds}
use Rattle.plan_kinds.specs.Kinds.{side_by_side}
use Rattle.plan_kinds.proofs.phases.append_answers.Given as goal

abbrev pub invariant-loop-call : goal.invariant-loop-call
invariant-loop-call l =
    side_by_side (Some l.kinds.items) (answer_kinds (drop l.call-index l.calls) l.left)
    ≡ side_by_side (Some l.fn.kinds.items) (answer_kinds l.calls l.states)
