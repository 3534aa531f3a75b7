use Rattle.std.proofs.Common.{◌≡◌, ◌++◌}
use Rattle.join_lowering.specs.Keys.{keys, others, conjoined, conjuncts, residual}
use Rattle.join_lowering.proofs.split.split.Given as goal

abbrev pub invariant-loop-part : goal.invariant-loop-part
invariant-loop-part l =
    (l.found.keys ++ keys l.width l.part-iterator.rest.items ≡ keys l.width (conjuncts l.fn.test))
    × (conjoined l.found.rest (others l.width l.part-iterator.rest.items) ≡ residual l.width l.fn.test)
