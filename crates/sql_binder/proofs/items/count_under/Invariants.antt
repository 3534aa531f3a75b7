use Rattle.std.proofs.Common.{◌≡◌, ◌≤◌, ◌+◌, Some, drop, length}
use Rattle.typed_exprs.specs.Scopes.{numbers_from}
use Rattle.sql_binder.specs.Items.{is_given, given}
use Rattle.sql_binder.proofs.items.count_under.Given as goal

-- those so far, and the rest
abbrev pub invariant-loop-number : goal.invariant-loop-number
invariant-loop-number l = record {
  below : l.count ≤ l.number;
  sum : l.count + length (numbers_from (is_given (Some l.alias)) l.number (drop l.number l.columns)) ≡ length (given (Some l.alias) l.columns);
}
