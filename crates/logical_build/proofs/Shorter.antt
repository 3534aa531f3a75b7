-- A list of kinds that has ended.
use Rattle.std.proofs.Common.{◌≡◌, refl, ap, sym, ◌∙◌, ℕ, List, [], ◌∷◌, ◌++◌, drop, length, ◌≤◌}
use Rattle.std.proofs.Math.ListN.{drop_of_length-le}
use Rattle.std.proofs.lemmas.List.{append-nil}
use Rattle.dfx_value.specs.declared.kind.Kind.{Kind}
use Rattle.scalar_exprs.specs.declared.expr.Expr.{Expr}
use Rattle.logical_build.specs.Unions.{casts}

casts_of_none : (k : ℕ) (us : List Kind) → casts k us [] ≡ []
casts_of_none k [] = refl
casts_of_none k (u ∷ us) = refl

-- those so far are all
pub all_cast : (k : ℕ) (us js : List Kind) (done all : List Expr) → length js ≤ k → done ++ casts k (drop k us) (drop k js) ≡ all → done ≡ all
all_cast k us js done all h e = sym (append-nil done) ∙ sym (ap (λ (xs : List Expr). done ++ xs) (ap (casts k (drop k us)) (drop_of_length-le js h) ∙ casts_of_none k (drop k us))) ∙ e
