-- Plans for the worked examples. A table has a number and a text.
use Rattle.std.specs.Prelude.{ℕ, pos, false, List, [], ◌∷◌, Some, None}
use Rattle.dfx_value.specs.declared.kind.Kind.TheVariants as kind
use Rattle.dfx_value.specs.declared.value.Value.TheVariants as value
use Rattle.dfx_value.specs.declared.op.Op.TheVariants as op
use Rattle.dfx_value.specs.declared.op.AggCall.TheVariants as call
use Rattle.dfx_value.specs.declared.op.JoinKind.{JoinKind}
use Rattle.dfx_value.specs.declared.rows.SortKey.{SortKey}
use Rattle.scalar_exprs.specs.declared.expr.Expr.{Expr}
use Rattle.scalar_exprs.specs.declared.expr.Expr.TheVariants.{Column, Const, Binary}
use Rattle.plan_props.specs.declared.properties.Partitioning.TheVariants.{RoundRobin, Hash}
use Rattle.physical_plan.specs.declared.plan.Plan.{Plan}
use Rattle.physical_plan.specs.declared.plan.Plan.TheVariants as plan

-- as many files as partitions
abbrev pub scan : ℕ → ℕ → Plan
scan table partitions = plan.Scan table (kind.Int ∷ kind.Text ∷ []) partitions partitions

abbrev pub exprs : List ℕ → List Expr
exprs [] = []
exprs (k ∷ ks) = Column k ∷ exprs ks

abbrev pub ascending : List ℕ → List SortKey
ascending [] = []
ascending (k ∷ ks) = record { column = k; descending = false; nulls_first = false } ∷ ascending ks

abbrev pub project : Plan → List ℕ → Plan
project p ks = plan.Project p (exprs ks)

-- the rows of which a column is 1, and those of which two columns are equal
abbrev pub ones : Plan → ℕ → Plan
ones p k = plan.Filter p (Binary op.Eq (Column k) (Const (value.Int (pos 1)) kind.Int))

abbrev pub equal : Plan → ℕ → ℕ → Plan
equal p j k = plan.Filter p (Binary op.Eq (Column j) (Column k))

abbrev pub sort : Plan → List ℕ → Plan
sort p ks = plan.Sort p (ascending ks)

abbrev pub merge : Plan → List ℕ → Plan
merge p ks = plan.Merge p (ascending ks)

-- both phases of COUNT(*)
abbrev pub first_phase : Plan → List ℕ → Plan
first_phase p ks = plan.PartialGroup p ks (call.CountAll ∷ [])

abbrev pub second_phase : Plan → List ℕ → Plan
second_phase p ks = plan.FinalGroup p ks (call.CountAll ∷ [])

-- by one pair of columns
abbrev pub join : JoinKind → Plan → Plan → ℕ → ℕ → Plan
join kind left right j k = plan.HashJoin kind left right ((j, k) ∷ []) None

abbrev pub union : Plan → Plan → Plan
union one other = plan.UnionAll (one ∷ other ∷ [])

abbrev pub hashed : Plan → List ℕ → ℕ → Plan
hashed p ks n = plan.Repartition p (Hash ks n)

abbrev pub dealt : Plan → ℕ → Plan
dealt p n = plan.Repartition p (RoundRobin n)

abbrev pub limit : Plan → Plan
limit p = plan.Limit p 0 (Some 1)
