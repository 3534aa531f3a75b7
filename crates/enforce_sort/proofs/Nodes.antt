-- Sorts, node by node.
use Rattle.std.proofs.Common.{◌≡◌, ℕ, List, Option, map}
use Rattle.dfx_value.specs.declared.kind.Kind.{Kind}
use Rattle.dfx_value.specs.declared.rows.SortKey.{SortKey}
use Rattle.scalar_exprs.specs.declared.expr.Expr.{Expr}
use Rattle.dfx_value.specs.declared.op.JoinKind.{JoinKind}
use Rattle.dfx_value.specs.declared.op.AggCall.{AggCall}
use Rattle.plan_props.specs.declared.properties.Partitioning.{Partitioning}
use Rattle.physical_plan.specs.declared.plan.Plan.{Plan}
use Rattle.physical_plan.specs.declared.plan.Plan.TheOpen.{Plan-F}
use Rattle.physical_plan.specs.declared.plan.Plan.TheVariants.{Scan, Filter, Project, PartialGroup, FinalGroup, HashJoin, Sort, Merge, Coalesce, Repartition, UnionAll, Limit}
use Rattle.physical_plan.proofs.Folds.{folded}
use Rattle.enforce_sort.specs.Arrange.{arrange, enforce_sorting}

pub arranged-Scan : (table : ℕ) (kinds : List Kind) (files : ℕ) (partitions : ℕ) → enforce_sorting (Scan table kinds files partitions) ≡ arrange (Plan-F.Scan table kinds files partitions)
unfolding enforce_sorting
arranged-Scan table kinds files partitions = folded Plan arrange (Plan-F.Scan table kinds files partitions)

pub arranged-Filter : (input : Plan) (test : Expr) → enforce_sorting (Filter input test) ≡ arrange (Plan-F.Filter (enforce_sorting input) test)
unfolding enforce_sorting
arranged-Filter input test = folded Plan arrange (Plan-F.Filter input test)

pub arranged-Project : (input : Plan) (items : List Expr) → enforce_sorting (Project input items) ≡ arrange (Plan-F.Project (enforce_sorting input) items)
unfolding enforce_sorting
arranged-Project input items = folded Plan arrange (Plan-F.Project input items)

pub arranged-PartialGroup : (input : Plan) (keys : List ℕ) (calls : List AggCall) → enforce_sorting (PartialGroup input keys calls) ≡ arrange (Plan-F.PartialGroup (enforce_sorting input) keys calls)
unfolding enforce_sorting
arranged-PartialGroup input keys calls = folded Plan arrange (Plan-F.PartialGroup input keys calls)

pub arranged-FinalGroup : (input : Plan) (keys : List ℕ) (calls : List AggCall) → enforce_sorting (FinalGroup input keys calls) ≡ arrange (Plan-F.FinalGroup (enforce_sorting input) keys calls)
unfolding enforce_sorting
arranged-FinalGroup input keys calls = folded Plan arrange (Plan-F.FinalGroup input keys calls)

pub arranged-HashJoin : (kind : JoinKind) (left : Plan) (right : Plan) (keys : List (ℕ × ℕ)) (rest : Option Expr) → enforce_sorting (HashJoin kind left right keys rest) ≡ arrange (Plan-F.HashJoin kind (enforce_sorting left) (enforce_sorting right) keys rest)
unfolding enforce_sorting
arranged-HashJoin kind left right keys rest = folded Plan arrange (Plan-F.HashJoin kind left right keys rest)

pub arranged-Sort : (input : Plan) (keys : List SortKey) → enforce_sorting (Sort input keys) ≡ arrange (Plan-F.Sort (enforce_sorting input) keys)
unfolding enforce_sorting
arranged-Sort input keys = folded Plan arrange (Plan-F.Sort input keys)

pub arranged-Merge : (input : Plan) (keys : List SortKey) → enforce_sorting (Merge input keys) ≡ arrange (Plan-F.Merge (enforce_sorting input) keys)
unfolding enforce_sorting
arranged-Merge input keys = folded Plan arrange (Plan-F.Merge input keys)

pub arranged-Coalesce : (input : Plan) → enforce_sorting (Coalesce input) ≡ arrange (Plan-F.Coalesce (enforce_sorting input))
unfolding enforce_sorting
arranged-Coalesce input = folded Plan arrange (Plan-F.Coalesce input)

pub arranged-Repartition : (input : Plan) (to : Partitioning) → enforce_sorting (Repartition input to) ≡ arrange (Plan-F.Repartition (enforce_sorting input) to)
unfolding enforce_sorting
arranged-Repartition input to = folded Plan arrange (Plan-F.Repartition input to)

pub arranged-UnionAll : (inputs : List Plan) → enforce_sorting (UnionAll inputs) ≡ arrange (Plan-F.UnionAll (map enforce_sorting inputs))
unfolding enforce_sorting
arranged-UnionAll inputs = folded Plan arrange (Plan-F.UnionAll inputs)

pub arranged-Limit : (input : Plan) (skip : ℕ) (fetch : Option ℕ) → enforce_sorting (Limit input skip fetch) ≡ arrange (Plan-F.Limit (enforce_sorting input) skip fetch)
unfolding enforce_sorting
arranged-Limit input skip fetch = folded Plan arrange (Plan-F.Limit input skip fetch)

pub ruleset arranged_nodes = (arranged-Scan, arranged-Filter, arranged-Project, arranged-PartialGroup, arranged-FinalGroup, arranged-HashJoin, arranged-Sort, arranged-Merge, arranged-Coalesce, arranged-Repartition, arranged-UnionAll, arranged-Limit)
