-- Meaning: the rows of groups.
use Rattle.std.specs.Prelude.{ℕ, suc, ◌+◌, zero, Option, Some, None, List, [], ◌∷◌, ◌++◌, length, map}
use Rattle.dfx_value.specs.declared.kind.Kind.{Kind}
use Rattle.dfx_value.specs.declared.op.AggCall.{AggCall}
use Rattle.scalar_exprs.specs.declared.expr.Expr.{Expr}
use Rattle.logical_plan.specs.declared.plan.Logical.{Logical}
use Rattle.logical_plan.specs.declared.plan.Logical.TheVariants as plan
use Rattle.typed_exprs.specs.Typed.{Kinded}

abbrev pub columns_from : ℕ → ℕ → List ℕ
columns_from k zero = []
columns_from k (suc n) = k ∷ columns_from (k + 1) n

-- so many columns from 0 on
abbrev pub first_columns : ℕ → List ℕ
first_columns n = columns_from 0 n

abbrev pub exprs : List Kinded → List Expr
exprs = map (λ (k : Kinded). k.0)

abbrev pub key_kinds : List Kinded → List Kind
key_kinds = map (λ (k : Kinded). k.1)

-- over a row of the keys and then the arguments: the keys, and the calls
abbrev pub aggregated : Logical → List Kinded → List Expr → List AggCall → Logical
aggregated body ks args found =
    plan.Aggregate (plan.Project body (exprs ks ++ args)) (first_columns (length ks)) found

-- the rows on which a test is true
abbrev pub kept : Option Expr → Logical → Logical
kept None body = body
kept (Some test) body = plan.Filter body test
