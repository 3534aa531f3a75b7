-- The kinds of a plan's columns, node by node.
use Rattle.std.proofs.Common.{◌≡◌, ℕ, List, Option, Some, map, ap, sym, ◌∙◌}
use Rattle.dfx_value.specs.declared.kind.Kind.{Kind}
use Rattle.dfx_value.specs.declared.rows.SortKey.{SortKey}
use Rattle.dfx_value.specs.declared.op.AggCall.{AggCall}
use Rattle.dfx_value.specs.declared.op.JoinKind.{JoinKind}
use Rattle.scalar_exprs.specs.declared.expr.Expr.{Expr}
use Rattle.scalar_exprs.specs.Kinds.{◌>>=◌}
use Rattle.plan_props.specs.declared.properties.Partitioning.{Partitioning}
use Rattle.physical_plan.specs.declared.plan.Plan.{Plan}
use Rattle.physical_plan.specs.declared.plan.Plan.TheOpen.{Plan-F}
use Rattle.physical_plan.specs.declared.plan.Plan.TheViews.{roll-Plan}
use Rattle.physical_plan.specs.declared.plan.Plan.TheFolds.{fold-roll-Plan, map-Plan}
use Rattle.physical_plan.specs.declared.plan.Plan.TheVariants.{Scan, Filter, Project, PartialGroup, FinalGroup, HashJoin, Sort, Merge, Coalesce, Repartition, UnionAll, Limit, rolls-Scan, rolls-Filter, rolls-Project, rolls-PartialGroup, rolls-FinalGroup, rolls-HashJoin, rolls-Sort, rolls-Merge, rolls-Coalesce, rolls-Repartition, rolls-UnionAll, rolls-Limit}
use Rattle.plan_kinds.specs.Kinds.{kinds, node_kinds, projected_kinds, partial_kinds, final_kinds, side_by_side, union_kinds}

pub kinds_rolled : (z : Plan-F Plan) → kinds (roll-Plan z) ≡ node_kinds (map-Plan Plan (Option (List Kind)) kinds z)
unfolding kinds
kinds_rolled z = fold-roll-Plan (Option (List Kind)) node_kinds z

at_node : (p : Plan) (z : Plan-F Plan) → roll-Plan z ≡ p → kinds p ≡ node_kinds (map-Plan Plan (Option (List Kind)) kinds z)
at_node p z r = ap kinds (sym r) ∙ kinds_rolled z

pub kinds-Scan : (table : ℕ) (ks : List Kind) (files partitions : ℕ) → kinds (Scan table ks files partitions) ≡ Some ks
kinds-Scan table ks files partitions = at_node (Scan table ks files partitions) (Plan-F.Scan table ks files partitions) (rolls-Scan table ks files partitions)

pub kinds-Filter : (input : Plan) (test : Expr) → kinds (Filter input test) ≡ kinds input
kinds-Filter input test = at_node (Filter input test) (Plan-F.Filter input test) (rolls-Filter input test)

pub kinds-Project : (input : Plan) (items : List Expr) → kinds (Project input items) ≡ (kinds input >>= λ columns. projected_kinds columns items)
kinds-Project input items = at_node (Project input items) (Plan-F.Project input items) (rolls-Project input items)

pub kinds-PartialGroup : (input : Plan) (keys : List ℕ) (calls : List AggCall) → kinds (PartialGroup input keys calls) ≡ (kinds input >>= partial_kinds keys calls)
kinds-PartialGroup input keys calls = at_node (PartialGroup input keys calls) (Plan-F.PartialGroup input keys calls) (rolls-PartialGroup input keys calls)

pub kinds-FinalGroup : (input : Plan) (keys : List ℕ) (calls : List AggCall) → kinds (FinalGroup input keys calls) ≡ (kinds input >>= final_kinds keys calls)
kinds-FinalGroup input keys calls = at_node (FinalGroup input keys calls) (Plan-F.FinalGroup input keys calls) (rolls-FinalGroup input keys calls)

pub kinds-HashJoin : (kind : JoinKind) (left right : Plan) (keys : List (ℕ × ℕ)) (rest : Option Expr) → kinds (HashJoin kind left right keys rest) ≡ side_by_side (kinds left) (kinds right)
kinds-HashJoin kind left right keys rest = at_node (HashJoin kind left right keys rest) (Plan-F.HashJoin kind left right keys rest) (rolls-HashJoin kind left right keys rest)

pub kinds-Sort : (input : Plan) (keys : List SortKey) → kinds (Sort input keys) ≡ kinds input
kinds-Sort input keys = at_node (Sort input keys) (Plan-F.Sort input keys) (rolls-Sort input keys)

pub kinds-Merge : (input : Plan) (keys : List SortKey) → kinds (Merge input keys) ≡ kinds input
kinds-Merge input keys = at_node (Merge input keys) (Plan-F.Merge input keys) (rolls-Merge input keys)

pub kinds-Coalesce : (input : Plan) → kinds (Coalesce input) ≡ kinds input
kinds-Coalesce input = at_node (Coalesce input) (Plan-F.Coalesce input) (rolls-Coalesce input)

pub kinds-Repartition : (input : Plan) (to : Partitioning) → kinds (Repartition input to) ≡ kinds input
kinds-Repartition input to = at_node (Repartition input to) (Plan-F.Repartition input to) (rolls-Repartition input to)

pub kinds-UnionAll : (inputs : List Plan) → kinds (UnionAll inputs) ≡ union_kinds (map kinds inputs)
kinds-UnionAll inputs = at_node (UnionAll inputs) (Plan-F.UnionAll inputs) (rolls-UnionAll inputs)

pub kinds-Limit : (input : Plan) (skip : ℕ) (fetch : Option ℕ) → kinds (Limit input skip fetch) ≡ kinds input
kinds-Limit input skip fetch = at_node (Limit input skip fetch) (Plan-F.Limit input skip fetch) (rolls-Limit input skip fetch)

pub ruleset kinds_by_node = (kinds-Scan, kinds-Filter, kinds-Project, kinds-PartialGroup, kinds-FinalGroup, kinds-HashJoin, kinds-Sort, kinds-Merge, kinds-Coalesce, kinds-Repartition, kinds-UnionAll, kinds-Limit)
