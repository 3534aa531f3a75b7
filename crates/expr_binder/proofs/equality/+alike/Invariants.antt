use Rattle.std.proofs.Common.{◌≡◌, false, map, drop}
use Rattle.typed_exprs.specs.Scopes.{Columns}
use Rattle.expr_binder.specs.Same as spec
use Rattle.expr_binder.proofs.equality.+alike.Given as goal

-- where what is left is unlike, so are the whole lists
abbrev pub invariant-all_alike-loop-at : goal.invariant-all_alike-loop-at
invariant-all_alike-loop-at l = (columns : Columns) → false ≡ spec.all_same (map (spec.same columns) (drop l.at l.left)) (drop l.at l.right) → false ≡ spec.all_same (map (spec.same columns) l.left) l.right
