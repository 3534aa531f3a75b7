use Rattle.std.proofs.Common.{◌≡◌, [], ◌++◌, drop}
use Rattle.plan_props.specs.Satisfies.{struck}
use Rattle.plan_props.proofs.ordering.struck.Given as goal

abbrev pub invariant-loop-key : goal.invariant-loop-key
invariant-loop-key l = l.kept.items ++ struck l.props l.seen.items (drop l.key-index l.keys) ≡ struck l.props [] l.keys
