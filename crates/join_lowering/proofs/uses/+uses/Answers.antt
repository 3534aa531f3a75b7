use Rattle.std.proofs.Common.{◌+◌, drop, ap, ◌∙◌, arith}
use Rattle.join_lowering.specs.declared.uses.Uses.{Uses}
use Rattle.join_lowering.specs.Keys.{columns}
use Rattle.join_lowering.specs.SidesUsed.{with_columns, arm_columns, all_columns}
use Rattle.join_lowering.proofs.Sides.{next_arm, no_arm, next_expr, no_expr}
use Rattle.join_lowering.proofs.uses.+uses.Goals as goal

pub uses_in_all-loop-expr-preserved : goal.uses_in_all-loop-expr-preserved
uses_in_all-loop-expr-preserved t c =
    ap (λ (v : Uses). with_columns c.args.width v (all_columns (drop (c.loop-expr.expr-index + 1) c.args.exprs.now))) c.uses_of-uses.ensures
    ∙ next_expr c.args.width c.loop-expr.uses c.args.exprs.now c.loop-expr.expr-index c.expr-item.result c.loop-expr-test.true c.expr-item.is
    ∙ c.loop-expr.invariant

pub uses_in_all-returns : goal.uses_in_all-returns
uses_in_all-returns t c =
    no_expr c.args.width c.loop-expr.uses c.args.exprs.now c.loop-expr.expr-index (omega arith) ∙ c.loop-expr.invariant

pub uses_in_arms-loop-arm-preserved : goal.uses_in_arms-loop-arm-preserved
uses_in_arms-loop-arm-preserved t c =
    ap (λ (v : Uses). with_columns c.args.width v (arm_columns (drop (c.loop-arm.arm-index + 1) c.args.arms.now))) (c.uses_of-uses.ensures ∙ ap (λ (v : Uses). with_columns c.args.width v (columns c.arm-item.result.1)) c.uses_of-tested.ensures)
    ∙ next_arm c.args.width c.loop-arm.uses c.args.arms.now c.loop-arm.arm-index c.arm-item.result c.loop-arm-test.true c.arm-item.is
    ∙ c.loop-arm.invariant

pub uses_in_arms-returns : goal.uses_in_arms-returns
uses_in_arms-returns t c =
    no_arm c.args.width c.loop-arm.uses c.args.arms.now c.loop-arm.arm-index (omega arith) ∙ c.loop-arm.invariant
