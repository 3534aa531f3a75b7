-- Meaning: the columns that a select gives.
use Rattle.std.specs.Prelude.{ℕ, Bool, true, false, List, map}
use Rattle.dfx_value.specs.declared.kind.Kind.{Kind}
use Rattle.scalar_exprs.specs.declared.expr.Expr.{Expr}
use Rattle.logical_plan.specs.declared.plan.Logical.{Logical}
use Rattle.logical_plan.specs.declared.plan.Logical.TheVariants as plan
use Rattle.logical_build.specs.declared.outputs.Output.{Output}

abbrev pub names : List Output → List (List ℕ)
names = map (λ (o : Output). o.name)

abbrev pub exprs : List Output → List Expr
exprs = map (λ (o : Output). o.expr)

abbrev pub kinds : List Output → List Kind
kinds = map (λ (o : Output). o.kind)

abbrev pub distinct_if : Bool → Logical → Logical
distinct_if true body = plan.Distinct body
distinct_if false body = body

-- a Project of them, and a Distinct on top where it is written
abbrev pub projected_body : Bool → List Output → Logical → Logical
projected_body distinct os body = distinct_if distinct (plan.Project body (exprs os))
