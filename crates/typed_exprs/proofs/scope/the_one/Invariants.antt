use Rattle.std.proofs.Common.{◌≡◌, ℕ, Option, Some, None, List, ◌∷◌, drop}
use Rattle.typed_exprs.specs.Scopes as spec
use Rattle.typed_exprs.proofs.scope.the_one.Given as goal

-- what was found before, and more
abbrev with_found : Option ℕ → List ℕ → List ℕ
with_found None ks = ks
with_found (Some k) ks = k ∷ ks

-- the one of what was found so far and of the rest
abbrev pub invariant-loop-number : goal.invariant-loop-number
invariant-loop-number l =
    spec.the_one l.place (with_found l.found (spec.numbers_from (spec.is_named l.alias l.name) l.number (drop l.number l.columns)))
    ≡ spec.the_one l.place (spec.numbers (spec.is_named l.alias l.name) l.columns)
