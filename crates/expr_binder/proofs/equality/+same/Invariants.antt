use Rattle.std.proofs.Common.{◌≡◌, map, drop}
use Rattle.expr_binder.specs.Same as spec
use Rattle.expr_binder.proofs.equality.+same.Given as goal

-- what is left answers as the whole
abbrev pub invariant-all_same-loop-at : goal.invariant-all_same-loop-at
invariant-all_same-loop-at l =
    spec.all_same (map (spec.same l.columns) (drop l.at l.left)) (drop l.at l.right) ≡ spec.all_same (map (spec.same l.columns) l.left) l.right

abbrev pub invariant-arms_same-loop-at : goal.invariant-arms_same-loop-at
invariant-arms_same-loop-at l =
    spec.arms_same (map (spec.same_arm l.columns) (drop l.at l.left)) (drop l.at l.right) ≡ spec.arms_same (map (spec.same_arm l.columns) l.left) l.right
