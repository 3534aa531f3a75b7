use Rattle.std.proofs.Common.{◌≡◌, take}
use Rattle.scan_run.proofs.columns.kinds_of.Given as goal

abbrev pub invariant-loop-at : goal.invariant-loop-at
invariant-loop-at l = l.kinds.items ≡ take l.at l.batch.kinds
