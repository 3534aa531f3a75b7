use Rattle.std.proofs.Common.{◌≡◌, drop}
use Rattle.plan_props.specs.Same.{is_same_as_some}
use Rattle.plan_props.proofs.leaders.is_same_as_some.Given as goal

abbrev pub invariant-loop-key : goal.invariant-loop-key
invariant-loop-key l = is_same_as_some l.pairs (drop l.key-index l.keys) l.column ≡ is_same_as_some l.pairs l.keys l.column
