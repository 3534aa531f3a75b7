-- Meaning: kinds of several bodies, unified, and a body as one of unified kinds.
use Rattle.std.specs.Prelude.{ℕ, suc, Bool, true, false, Option, Some, None, List, [], ◌∷◌, ◌++◌, ◌&&◌, option_and_then}
use Rattle.dfx_value.specs.declared.kind.Kind.{Kind}
use Rattle.scalar_exprs.specs.declared.expr.Expr.{Expr}
use Rattle.scalar_exprs.specs.declared.expr.Expr.TheVariants as expr
use Rattle.scalar_exprs.specs.Kinds.{same}
use Rattle.logical_plan.specs.declared.plan.Logical.{Logical}
use Rattle.logical_plan.specs.declared.plan.Logical.TheVariants as plan
use Rattle.typed_exprs.specs.declared.typed.Typed.TheVariants as typed
use Rattle.typed_exprs.specs.Typed.{unified, as_kind}

-- column by column, where there are as many, behind those that are done
abbrev pub unified_after : List Kind → List Kind → List Kind → Option (List Kind)
unified_after done [] [] = Some done
unified_after done (j ∷ js) (k ∷ ks) =
    option_and_then (λ u. unified_after (done ++ u ∷ []) js ks) (unified j k)
unified_after done _ _ = None

abbrev pub all_unified : List Kind → List Kind → Option (List Kind)
all_unified js ks = unified_after [] js ks

abbrev pub are_same : List Kind → List Kind → Bool
are_same [] [] = true
are_same (j ∷ js) (k ∷ ks) = same j k && are_same js ks
are_same _ _ = false

abbrev pub cast : ℕ → Kind → Kind → Expr
cast k u j = as_kind u (typed.Of (expr.Column k) j)

-- each column, with a CAST where its kind is another one
abbrev pub casts : ℕ → List Kind → List Kind → List Expr
casts k (u ∷ us) (j ∷ js) = cast k u j ∷ casts (suc k) us js
casts k _ _ = []

abbrev pub cast_if : Bool → List Kind → List Kind → Logical → Logical
cast_if true us js body = body
cast_if false us js body = plan.Project body (casts 0 us js)

-- a Project on top where the kinds aren't the unified ones
abbrev pub with_kinds : List Kind → List Kind → Logical → Logical
with_kinds us js body = cast_if (are_same us js) us js body
