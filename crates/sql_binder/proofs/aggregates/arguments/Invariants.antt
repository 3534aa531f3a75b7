use Rattle.std.proofs.Common.{◌≡◌, map, drop}
use Rattle.logical_build.specs.Calls.{argument, arguments_of}
use Rattle.sql_binder.specs.Grouped as spec
use Rattle.sql_binder.specs.Each.{each_after}
use Rattle.sql_binder.proofs.aggregates.arguments.Given as goal

-- those so far, and the rest
abbrev pub invariant-loop-call : goal.invariant-loop-call
invariant-loop-call l = each_after (spec.settled_expr l.columns) l.done.items (arguments_of (map argument (drop l.call-index l.calls))) ≡ spec.arguments l.columns (map argument l.calls)
