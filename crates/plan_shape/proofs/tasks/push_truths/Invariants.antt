use Rattle.std.proofs.Common.{◌≡◌, ◌++◌, drop}
use Rattle.plan_shape.proofs.tasks.push_truths.Given as goal

abbrev pub invariant-loop-truth : goal.invariant-loop-truth
invariant-loop-truth l = l.all ++ drop l.truth-index l.truths ≡ l.initial.all ++ l.truths
