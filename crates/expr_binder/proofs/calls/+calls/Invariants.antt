use Rattle.std.proofs.Common.{◌≡◌, drop}
use Rattle.expr_binder.specs.Calls.{with_calls, calls_of_all, calls_of_arms}
use Rattle.expr_binder.proofs.calls.+calls.Given as goal

-- with what is left it is as with all
abbrev pub invariant-add_all-loop-expr : goal.invariant-add_all-loop-expr
invariant-add_all-loop-expr l =
    with_calls l.columns l.calls (calls_of_all (drop l.expr-index l.exprs)) ≡ with_calls l.columns l.fn.calls (calls_of_all l.exprs)

abbrev pub invariant-add_arms-loop-arm : goal.invariant-add_arms-loop-arm
invariant-add_arms-loop-arm l =
    with_calls l.columns l.calls (calls_of_arms (drop l.arm-index l.arms)) ≡ with_calls l.columns l.fn.calls (calls_of_arms l.arms)
