use Rattle.std.proofs.Common.{◌≡◌, false}
use Rattle.csv_tests.proofs.columns.push_batches.Given as goal

abbrev pub invariant-loop-at : goal.invariant-loop-at
invariant-loop-at l = (l.scan.refused ≡ false) × (l.scan.kinds ≡ l.fn.scan.kinds)
