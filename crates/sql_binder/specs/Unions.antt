-- Meaning: selects united.
use Rattle.std.specs.Prelude.{ℕ, List, [], ◌∷◌, map, Ok}
use Rattle.dfx_value.specs.declared.kind.Kind.{Kind}
use Rattle.logical_plan.specs.declared.plan.Logical.{Logical}
use Rattle.logical_plan.specs.declared.plan.Logical.TheVariants as plan
use Rattle.typed_exprs.specs.declared.refusal.Why.TheVariants as why
use Rattle.typed_exprs.specs.Answer.{Answer, ◌>>=◌, refuse, or_refuse}
use Rattle.logical_build.specs.Unions.{all_unified, with_kinds}
use Rattle.sql_binder.specs.declared.selected.Selected.{Selected}

-- a select with its place
abbrev pub Placed : Type 0
Placed = ℕ × Selected

-- with those of a later select, at its place
abbrev pub unified_with : List Kind → Placed → Answer (List Kind)
unified_with ks p = or_refuse why.KindMismatch p.0 (all_unified ks p.1.kinds)

abbrev pub common_kinds : List Kind → List Placed → Answer (List Kind)
common_kinds ks [] = Ok ks
common_kinds ks (p ∷ ps) = unified_with ks p >>= λ us. common_kinds us ps

abbrev pub bodies : List Kind → List Placed → List Logical
bodies us = map (λ (p : Placed). with_kinds us p.1.kinds p.1.body)

-- the kinds of a union, and its body, from those of the first select
abbrev pub union_body : List Kind → Logical → List Placed → Answer (List Kind × Logical)
union_body js body ps = common_kinds js ps >>= λ us. Ok (us, plan.UnionAll (with_kinds us js body ∷ bodies us ps))

abbrev pub united_with : Selected → List Placed → Answer Selected
united_with first [] = Ok first
united_with first (p ∷ ps) = union_body first.kinds first.body (p ∷ ps) >>= λ u.
    Ok (record { columns = []; names = first.names; kinds = u.0; body = u.1 })

-- one select is itself; several have the names of the first, and kinds that all of them unify to; there is one at least
abbrev pub united : List Placed → Answer Selected
united [] = refuse why.Unsupported 0
united (p ∷ ps) = united_with p.1 ps
