use Rattle.std.proofs.Common.{◌≡◌, drop}
use Rattle.plan_props.specs.Same.{are_each_some}
use Rattle.plan_props.proofs.leaders.are_each_some.Given as goal

abbrev pub invariant-loop-column : goal.invariant-loop-column
invariant-loop-column l = are_each_some l.pairs l.keys (drop l.column-index l.columns) ≡ are_each_some l.pairs l.keys l.columns
