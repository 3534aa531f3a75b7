use Rattle.std.proofs.Common.{◌≡◌, ◌++◌, reverse, length}
use Rattle.typed_exprs.proofs.unify.reversed.Given as goal

abbrev pub invariant-loop-expr : goal.invariant-loop-expr
invariant-loop-expr l = l.all ++ reverse l.exprs ≡ reverse l.fn.exprs

abbrev pub decreases-loop-expr : goal.decreases-loop-expr
decreases-loop-expr l = length l.exprs
