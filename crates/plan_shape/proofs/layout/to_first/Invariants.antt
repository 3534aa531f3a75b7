use Rattle.std.proofs.Common.{◌≡◌, [], ◌∷◌, ◌++◌, map, drop}
use Rattle.plan_shape.specs.Layout.{Part}
use Rattle.plan_shape.proofs.layout.to_first.Given as goal

abbrev pub invariant-loop-part : goal.invariant-loop-part
invariant-loop-part l = l.all ++ map (λ (p : Part). 0 ∷ []) (drop l._part-index l.parts) ≡ map (λ (p : Part). 0 ∷ []) l.parts
