use Rattle.std.proofs.Common.{◌≡◌, ◌++◌, drop, map}
use Rattle.join_lowering.specs.Lowering.{renumbered}
use Rattle.join_lowering.specs.SidesUsed.{new_number, renumbered_arms}
use Rattle.join_lowering.proofs.renumber.+renumber.Given as goal

abbrev pub invariant-renumber_all-loop-expr : goal.invariant-renumber_all-loop-expr
invariant-renumber_all-loop-expr l = l.all ++ map (renumbered (new_number l.by)) (drop l.expr-index l.exprs) ≡ map (renumbered (new_number l.by)) l.exprs

abbrev pub invariant-renumber_arms-loop-arm : goal.invariant-renumber_arms-loop-arm
invariant-renumber_arms-loop-arm l = l.all ++ renumbered_arms (new_number l.by) (drop l.arm-index l.arms) ≡ renumbered_arms (new_number l.by) l.arms
