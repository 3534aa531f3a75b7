use Rattle.std.proofs.Common.{◌≡◌}
use Rattle.csv_columns.proofs.columns.share_all.Given as goal

abbrev pub invariant-loop-column : goal.invariant-loop-column
invariant-loop-column l = l.all.items ≡ l.yielded
