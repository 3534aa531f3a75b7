use Rattle.std.proofs.Common.{◌≡◌, ◌++◌, drop}
use Rattle.join_lowering.specs.Lowering.{right_exprs}
use Rattle.join_lowering.proofs.appended.push_right.Given as goal

abbrev pub invariant-loop-key : goal.invariant-loop-key
invariant-loop-key l = l.exprs ++ right_exprs l.width (drop l.key-index l.keys) ≡ l.fn.exprs ++ right_exprs l.width l.keys
