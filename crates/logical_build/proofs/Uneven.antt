-- Lists of unequal lengths aren't the same, and don't unify.
use Rattle.std.proofs.Common.{◌≡◌, ◌≢◌, refl, ap, suc, Bool, true, false, ◌&&◌, Option, Some, None, List, [], ◌∷◌, ◌++◌, length}
use Rattle.dfx_value.specs.declared.kind.Kind.{Kind}
use Rattle.scalar_exprs.specs.Kinds.{same}
use Rattle.typed_exprs.specs.Typed.{unified}
use Rattle.logical_build.specs.Unions.{are_same, unified_after}
use Rattle.std.specs.Prelude.{option_and_then}

never : (b c : Bool) → false ≡ c → false ≡ (b && c)
never true c h = h
never false c h = refl

pub uneven : (js ks : List Kind) → length js ≢ length ks → false ≡ are_same js ks
uneven [] [] h = absurd (h refl)
uneven [] (k ∷ ks) h = refl
uneven (j ∷ js) [] h = refl
uneven (j ∷ js) (k ∷ ks) h = never (same j k) (are_same js ks) (uneven js ks (λ e. h (ap suc e)))

none : (o : Option Kind) (f : Kind → Option (List Kind)) → ((u : Kind) → None ≡ f u) → None ≡ option_and_then f o
none None f h = refl
none (Some u) f h = h u

pub not_unified : (done js ks : List Kind) → length js ≢ length ks → None ≡ unified_after done js ks
not_unified done [] [] h = absurd (h refl)
not_unified done [] (k ∷ ks) h = refl
not_unified done (j ∷ js) [] h = refl
not_unified done (j ∷ js) (k ∷ ks) h = none (unified j k) (λ u. unified_after (done ++ u ∷ []) js ks) (λ u. not_unified (done ++ u ∷ []) js ks (λ e. h (ap suc e)))
