use Rattle.std.proofs.Common.{◌≡◌, drop}
use Rattle.plan_props.specs.Satisfies.{is_front}
use Rattle.plan_props.proofs.ordering.is_front.Given as goal

abbrev pub invariant-loop-at : goal.invariant-loop-at
invariant-loop-at l = is_front l.props (drop l.at l.front) (drop l.at l.whole) ≡ is_front l.props l.front l.whole
