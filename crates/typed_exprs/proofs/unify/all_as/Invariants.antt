use Rattle.std.proofs.Common.{◌≡◌, ◌++◌, reverse, length, map}
use Rattle.typed_exprs.specs.Typed.{as_kind}
use Rattle.typed_exprs.proofs.unify.all_as.Given as goal

abbrev pub invariant-loop-part : goal.invariant-loop-part
invariant-loop-part l = map (as_kind l.kind) l.parts ++ reverse l.backwards ≡ map (as_kind l.kind) l.fn.parts

abbrev pub decreases-loop-part : goal.decreases-loop-part
decreases-loop-part l = length l.parts
