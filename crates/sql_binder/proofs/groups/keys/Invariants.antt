use Rattle.std.proofs.Common.{◌≡◌, drop}
use Rattle.sql_binder.specs.Grouped as spec
use Rattle.sql_binder.specs.Each.{each_after}
use Rattle.sql_binder.proofs.groups.keys.Given as goal

-- those so far, and the rest
abbrev pub invariant-loop-expr : goal.invariant-loop-expr
invariant-loop-expr l = each_after (spec.key l.columns) l.done.items (drop l.expr-index l.exprs) ≡ spec.keys l.columns l.exprs
