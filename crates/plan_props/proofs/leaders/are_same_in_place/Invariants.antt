use Rattle.std.proofs.Common.{◌≡◌, drop}
use Rattle.plan_props.specs.Same.{are_same_in_place}
use Rattle.plan_props.proofs.leaders.are_same_in_place.Given as goal

abbrev pub invariant-loop-at : goal.invariant-loop-at
invariant-loop-at l = are_same_in_place l.pairs (drop l.at l.keys) (drop l.at l.columns) ≡ are_same_in_place l.pairs l.keys l.columns
