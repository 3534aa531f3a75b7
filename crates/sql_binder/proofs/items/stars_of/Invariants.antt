use Rattle.std.proofs.Common.{◌≡◌, drop}
use Rattle.sql_binder.specs.Each.{each, each_after}
use Rattle.sql_binder.specs.Items as spec
use Rattle.sql_binder.proofs.items.stars_of.Given as goal

-- those so far, and the rest
abbrev pub invariant-loop-number : goal.invariant-loop-number
invariant-loop-number l = each_after (spec.star l.scope.columns l.scope.over l.place) l.outputs.items (drop l.number-index l.numbers) ≡ each (spec.star l.scope.columns l.scope.over l.place) l.numbers
