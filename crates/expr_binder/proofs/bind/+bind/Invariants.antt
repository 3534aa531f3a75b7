use Rattle.std.proofs.Common.{◌≡◌, List, ◌++◌, drop, Ok, Err}
use Rattle.std.specs.Option.{option_copied}
use Rattle.typed_exprs.specs.Answer.{Answer}
use Rattle.expr_binder.specs.Meaning.{meanings, arms_meaning}
use Rattle.expr_binder.proofs.bind.+bind.Given as goal

-- what is bound so far, and then the rest
abbrev behind : {A : Type 0} → List A → Answer (List A) → Answer (List A)
behind xs (Ok ys) = Ok (xs ++ ys)
behind xs (Err r) = Err r

abbrev pub invariant-bind_all-loop-expr : goal.invariant-bind_all-loop-expr
invariant-bind_all-loop-expr l =
    behind l.bound (meanings l.columns (option_copied l.over) (drop l.expr-index l.exprs)) ≡ meanings l.columns (option_copied l.over) l.exprs

abbrev pub invariant-bind_arms-loop-arm : goal.invariant-bind_arms-loop-arm
invariant-bind_arms-loop-arm l =
    behind l.bound (arms_meaning l.columns (option_copied l.over) (drop l.arm-index l.arms)) ≡ arms_meaning l.columns (option_copied l.over) l.arms
