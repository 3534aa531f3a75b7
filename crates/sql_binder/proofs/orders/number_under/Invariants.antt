use Rattle.std.proofs.Common.{◌≡◌, ◌≤◌, ◌+◌, ℕ, List, Option, Some, None, drop, length}
use Rattle.std.specs.Prelude.{map}
use Rattle.typed_exprs.specs.Scopes.{numbers_from}
use Rattle.sql_binder.specs.Items.{is_column, is_given}
use Rattle.sql_binder.specs.Orders as spec
use Rattle.sql_binder.proofs.orders.number_under.Given as goal

-- none so far
abbrev pub invariant-loop-number : goal.invariant-loop-number
invariant-loop-number l = record {
  below : l.before ≤ l.number;
  none : spec.first_from l.before (map (is_column l.columns) (numbers_from (is_given (Some l.alias)) l.number (drop l.number l.columns))) l.key ≡ spec.first_from 0 (spec.column_tests l.columns (Some l.alias)) l.key;
}
