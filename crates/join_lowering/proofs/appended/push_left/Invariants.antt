use Rattle.std.proofs.Common.{◌≡◌, ◌++◌, drop}
use Rattle.join_lowering.specs.Lowering.{left_exprs}
use Rattle.join_lowering.proofs.appended.push_left.Given as goal

abbrev pub invariant-loop-key : goal.invariant-loop-key
invariant-loop-key l = l.exprs ++ left_exprs (drop l.key-index l.keys) ≡ l.fn.exprs ++ left_exprs l.keys
