-- The lines of a plan, node by node.
use Rattle.std.proofs.Common.{◌≡◌, ℕ, List, Option, map, ap, sym, ◌∙◌}
use Rattle.dfx_value.specs.declared.kind.Kind.{Kind}
use Rattle.dfx_value.specs.declared.rows.SortKey.{SortKey}
use Rattle.dfx_value.specs.declared.op.JoinKind.{JoinKind}
use Rattle.dfx_value.specs.declared.op.AggCall.{AggCall}
use Rattle.plan_props.specs.declared.properties.Partitioning.{Partitioning}
use Rattle.scalar_exprs.specs.declared.expr.Expr.{Expr}
use Rattle.physical_plan.specs.declared.plan.Plan.{Plan}
use Rattle.physical_plan.specs.declared.plan.Plan.TheOpen.{Plan-F}
use Rattle.physical_plan.specs.declared.plan.Plan.TheVariants.{Scan, Filter, Project, PartialGroup, FinalGroup, HashJoin, Sort, Merge, Coalesce, Repartition, UnionAll, Limit, rolls-Scan, rolls-Filter, rolls-Project, rolls-PartialGroup, rolls-FinalGroup, rolls-HashJoin, rolls-Sort, rolls-Merge, rolls-Coalesce, rolls-Repartition, rolls-UnionAll, rolls-Limit}
use Rattle.physical_plan.specs.declared.plan.Plan.TheViews.{roll-Plan}
use Rattle.physical_plan.specs.declared.plan.Plan.TheFolds.{fold-roll-Plan, map-Plan}
use Rattle.plan_text.specs.PlanText.{Lines, node_lines, lines_of}

lines_at : (names : List (List ℕ)) (p : Plan) (z : Plan-F Plan) (level : ℕ) → roll-Plan z ≡ p → lines_of names p level ≡ node_lines names (map-Plan Plan Lines (lines_of names) z) level
unfolding lines_of
lines_at names p z level rolls = ap (λ (q : Plan). lines_of names q level) (sym rolls) ∙ ap (λ (f : Lines). f level) (fold-roll-Plan Lines (node_lines names) z)

pub lines-Scan : (names : List (List ℕ)) (table : ℕ) (kinds : List Kind) (files partitions : ℕ) (level : ℕ) → lines_of names (Scan table kinds files partitions) level ≡ node_lines names (Plan-F.Scan table kinds files partitions) level
lines-Scan names table kinds files partitions level = lines_at names (Scan table kinds files partitions) (Plan-F.Scan table kinds files partitions) level (rolls-Scan table kinds files partitions)

pub lines-Filter : (names : List (List ℕ)) (input : Plan) (test : Expr) (level : ℕ) → lines_of names (Filter input test) level ≡ node_lines names (Plan-F.Filter (lines_of names input) test) level
lines-Filter names input test level = lines_at names (Filter input test) (Plan-F.Filter input test) level (rolls-Filter input test)

pub lines-Project : (names : List (List ℕ)) (input : Plan) (items : List Expr) (level : ℕ) → lines_of names (Project input items) level ≡ node_lines names (Plan-F.Project (lines_of names input) items) level
lines-Project names input items level = lines_at names (Project input items) (Plan-F.Project input items) level (rolls-Project input items)

pub lines-PartialGroup : (names : List (List ℕ)) (input : Plan) (keys : List ℕ) (calls : List AggCall) (level : ℕ) → lines_of names (PartialGroup input keys calls) level ≡ node_lines names (Plan-F.PartialGroup (lines_of names input) keys calls) level
lines-PartialGroup names input keys calls level = lines_at names (PartialGroup input keys calls) (Plan-F.PartialGroup input keys calls) level (rolls-PartialGroup input keys calls)

pub lines-FinalGroup : (names : List (List ℕ)) (input : Plan) (keys : List ℕ) (calls : List AggCall) (level : ℕ) → lines_of names (FinalGroup input keys calls) level ≡ node_lines names (Plan-F.FinalGroup (lines_of names input) keys calls) level
lines-FinalGroup names input keys calls level = lines_at names (FinalGroup input keys calls) (Plan-F.FinalGroup input keys calls) level (rolls-FinalGroup input keys calls)

pub lines-HashJoin : (names : List (List ℕ)) (kind : JoinKind) (left right : Plan) (keys : List (ℕ × ℕ)) (rest : Option Expr) (level : ℕ) → lines_of names (HashJoin kind left right keys rest) level ≡ node_lines names (Plan-F.HashJoin kind (lines_of names left) (lines_of names right) keys rest) level
lines-HashJoin names kind left right keys rest level = lines_at names (HashJoin kind left right keys rest) (Plan-F.HashJoin kind left right keys rest) level (rolls-HashJoin kind left right keys rest)

pub lines-Sort : (names : List (List ℕ)) (input : Plan) (keys : List SortKey) (level : ℕ) → lines_of names (Sort input keys) level ≡ node_lines names (Plan-F.Sort (lines_of names input) keys) level
lines-Sort names input keys level = lines_at names (Sort input keys) (Plan-F.Sort input keys) level (rolls-Sort input keys)

pub lines-Merge : (names : List (List ℕ)) (input : Plan) (keys : List SortKey) (level : ℕ) → lines_of names (Merge input keys) level ≡ node_lines names (Plan-F.Merge (lines_of names input) keys) level
lines-Merge names input keys level = lines_at names (Merge input keys) (Plan-F.Merge input keys) level (rolls-Merge input keys)

pub lines-Coalesce : (names : List (List ℕ)) (input : Plan) (level : ℕ) → lines_of names (Coalesce input) level ≡ node_lines names (Plan-F.Coalesce (lines_of names input)) level
lines-Coalesce names input level = lines_at names (Coalesce input) (Plan-F.Coalesce input) level (rolls-Coalesce input)

pub lines-Repartition : (names : List (List ℕ)) (input : Plan) (to : Partitioning) (level : ℕ) → lines_of names (Repartition input to) level ≡ node_lines names (Plan-F.Repartition (lines_of names input) to) level
lines-Repartition names input to level = lines_at names (Repartition input to) (Plan-F.Repartition input to) level (rolls-Repartition input to)

pub lines-UnionAll : (names : List (List ℕ)) (inputs : List Plan) (level : ℕ) → lines_of names (UnionAll inputs) level ≡ node_lines names (Plan-F.UnionAll (map (lines_of names) inputs)) level
lines-UnionAll names inputs level = lines_at names (UnionAll inputs) (Plan-F.UnionAll inputs) level (rolls-UnionAll inputs)

pub lines-Limit : (names : List (List ℕ)) (input : Plan) (skip : ℕ) (fetch : Option ℕ) (level : ℕ) → lines_of names (Limit input skip fetch) level ≡ node_lines names (Plan-F.Limit (lines_of names input) skip fetch) level
lines-Limit names input skip fetch level = lines_at names (Limit input skip fetch) (Plan-F.Limit input skip fetch) level (rolls-Limit input skip fetch)

pub ruleset line_nodes = (lines-Scan, lines-Filter, lines-Project, lines-PartialGroup, lines-FinalGroup, lines-HashJoin, lines-Sort, lines-Merge, lines-Coalesce, lines-Repartition, lines-UnionAll, lines-Limit)
