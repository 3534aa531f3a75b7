use Rattle.std.proofs.Common.{◌≡◌}
use Rattle.join_lowering.specs.Lowering.{keys_from}
use Rattle.join_lowering.proofs.appended.keys_from.Given as goal

abbrev pub invariant-loop-at : goal.invariant-loop-at
invariant-loop-at l = l.keys ≡ keys_from l.left l.right l.at
