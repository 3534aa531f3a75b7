use Rattle.std.proofs.Common.{◌∙◌, arith}
use Rattle.plan_text.proofs.LineSteps.{indent_more}
use Rattle.plan_text.proofs.lines.push_indent.Goals as goal

pub loop-at-preserved : goal.loop-at-preserved
loop-at-preserved c = indent_more _ _ _ _ (omega arith) c.in_ok-push_str.ensures.bytes ∙ c.loop-at.invariant
