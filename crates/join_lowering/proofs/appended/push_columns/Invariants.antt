use Rattle.std.proofs.Common.{◌≡◌, ◌++◌}
use Rattle.join_lowering.specs.Lowering.{columns_from}
use Rattle.join_lowering.proofs.appended.push_columns.Given as goal

abbrev pub invariant-loop-at : goal.invariant-loop-at
invariant-loop-at l = l.exprs ≡ l.fn.exprs ++ columns_from l.first l.at
