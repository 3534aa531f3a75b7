use Rattle.std.proofs.Common.{◌≡◌, drop}
use Rattle.plan_props.specs.Satisfies.{has}
use Rattle.plan_props.proofs.ordering.has.Given as goal

abbrev pub invariant-loop-one : goal.invariant-loop-one
invariant-loop-one l = has (drop l.one-index l.columns) l.column ≡ has l.columns l.column
