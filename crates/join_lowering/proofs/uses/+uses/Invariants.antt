use Rattle.std.proofs.Common.{◌≡◌, drop}
use Rattle.join_lowering.specs.SidesUsed.{with_columns, arm_columns, all_columns}
use Rattle.join_lowering.proofs.uses.+uses.Given as goal

abbrev pub invariant-uses_in_arms-loop-arm : goal.invariant-uses_in_arms-loop-arm
invariant-uses_in_arms-loop-arm l = with_columns l.width l.uses (arm_columns (drop l.arm-index l.arms)) ≡ with_columns l.width l.fn.before (arm_columns l.arms)

abbrev pub invariant-uses_in_all-loop-expr : goal.invariant-uses_in_all-loop-expr
invariant-uses_in_all-loop-expr l = with_columns l.width l.uses (all_columns (drop l.expr-index l.exprs)) ≡ with_columns l.width l.fn.before (all_columns l.exprs)
