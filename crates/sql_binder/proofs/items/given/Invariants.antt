use Rattle.std.proofs.Common.{◌≡◌, ◌<◌, ◌++◌, drop, length}
use Rattle.std.specs.Prelude.{All}
use Rattle.std.specs.Option.{option_copied}
use Rattle.typed_exprs.specs.Scopes.{numbers_from}
use Rattle.sql_binder.specs.Items as spec
use Rattle.sql_binder.proofs.items.given.Given as goal

-- those so far, and the rest
abbrev pub invariant-loop-number : goal.invariant-loop-number
invariant-loop-number l = record {
  those : l.numbers.items ++ numbers_from (spec.is_given (option_copied l.alias)) l.number (drop l.number l.columns) ≡ spec.given (option_copied l.alias) l.columns;
  within : All (λ n. n < length l.columns) l.numbers.items;
}
