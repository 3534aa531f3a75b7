-- How a plan is laid out, and its partitions counted, node by node.
use Rattle.std.proofs.Common.{◌≡◌, ℕ, List, Option, map, ap, sym, ◌∙◌}
use Rattle.dfx_value.specs.declared.kind.Kind.{Kind}
use Rattle.dfx_value.specs.declared.rows.SortKey.{SortKey}
use Rattle.scalar_exprs.specs.declared.expr.Expr.{Expr}
use Rattle.dfx_value.specs.declared.op.JoinKind.{JoinKind}
use Rattle.dfx_value.specs.declared.op.AggCall.{AggCall}
use Rattle.plan_props.specs.declared.properties.Partitioning.{Partitioning}
use Rattle.physical_plan.specs.declared.plan.Plan.{Plan}
use Rattle.physical_plan.specs.declared.plan.Plan.TheOpen.{Plan-F}
use Rattle.physical_plan.specs.declared.plan.Plan.TheFolds.{fold-roll-Plan}
use Rattle.physical_plan.specs.declared.plan.Plan.TheVariants.{Scan, Filter, Project, PartialGroup, FinalGroup, HashJoin, Sort, Merge, Coalesce, Repartition, UnionAll, Limit, rolls-Scan, rolls-Filter, rolls-Project, rolls-PartialGroup, rolls-FinalGroup, rolls-HashJoin, rolls-Sort, rolls-Merge, rolls-Coalesce, rolls-Repartition, rolls-UnionAll, rolls-Limit}
use Rattle.plan_shape.specs.Layout.{Laying, lay, layout}
use Rattle.plan_shape.specs.Counts.{Counted, count_node, counts_of}

pub layout-Scan : (table : ℕ) (kinds : List Kind) (files : ℕ) (partitions : ℕ) (k : ℕ) → layout (Scan table kinds files partitions) k ≡ lay (Plan-F.Scan table kinds files partitions) k
unfolding layout
layout-Scan table kinds files partitions k = ap (λ (f : Laying). f k) (ap layout (sym (rolls-Scan table kinds files partitions)) ∙ fold-roll-Plan Laying lay (Plan-F.Scan table kinds files partitions))

pub layout-Filter : (input : Plan) (test : Expr) (k : ℕ) → layout (Filter input test) k ≡ lay (Plan-F.Filter (layout input) test) k
unfolding layout
layout-Filter input test k = ap (λ (f : Laying). f k) (ap layout (sym (rolls-Filter input test)) ∙ fold-roll-Plan Laying lay (Plan-F.Filter input test))

pub layout-Project : (input : Plan) (items : List Expr) (k : ℕ) → layout (Project input items) k ≡ lay (Plan-F.Project (layout input) items) k
unfolding layout
layout-Project input items k = ap (λ (f : Laying). f k) (ap layout (sym (rolls-Project input items)) ∙ fold-roll-Plan Laying lay (Plan-F.Project input items))

pub layout-PartialGroup : (input : Plan) (keys : List ℕ) (calls : List AggCall) (k : ℕ) → layout (PartialGroup input keys calls) k ≡ lay (Plan-F.PartialGroup (layout input) keys calls) k
unfolding layout
layout-PartialGroup input keys calls k = ap (λ (f : Laying). f k) (ap layout (sym (rolls-PartialGroup input keys calls)) ∙ fold-roll-Plan Laying lay (Plan-F.PartialGroup input keys calls))

pub layout-FinalGroup : (input : Plan) (keys : List ℕ) (calls : List AggCall) (k : ℕ) → layout (FinalGroup input keys calls) k ≡ lay (Plan-F.FinalGroup (layout input) keys calls) k
unfolding layout
layout-FinalGroup input keys calls k = ap (λ (f : Laying). f k) (ap layout (sym (rolls-FinalGroup input keys calls)) ∙ fold-roll-Plan Laying lay (Plan-F.FinalGroup input keys calls))

pub layout-HashJoin : (kind : JoinKind) (left : Plan) (right : Plan) (keys : List (ℕ × ℕ)) (rest : Option Expr) (k : ℕ) → layout (HashJoin kind left right keys rest) k ≡ lay (Plan-F.HashJoin kind (layout left) (layout right) keys rest) k
unfolding layout
layout-HashJoin kind left right keys rest k = ap (λ (f : Laying). f k) (ap layout (sym (rolls-HashJoin kind left right keys rest)) ∙ fold-roll-Plan Laying lay (Plan-F.HashJoin kind left right keys rest))

pub layout-Sort : (input : Plan) (keys : List SortKey) (k : ℕ) → layout (Sort input keys) k ≡ lay (Plan-F.Sort (layout input) keys) k
unfolding layout
layout-Sort input keys k = ap (λ (f : Laying). f k) (ap layout (sym (rolls-Sort input keys)) ∙ fold-roll-Plan Laying lay (Plan-F.Sort input keys))

pub layout-Merge : (input : Plan) (keys : List SortKey) (k : ℕ) → layout (Merge input keys) k ≡ lay (Plan-F.Merge (layout input) keys) k
unfolding layout
layout-Merge input keys k = ap (λ (f : Laying). f k) (ap layout (sym (rolls-Merge input keys)) ∙ fold-roll-Plan Laying lay (Plan-F.Merge input keys))

pub layout-Coalesce : (input : Plan) (k : ℕ) → layout (Coalesce input) k ≡ lay (Plan-F.Coalesce (layout input)) k
unfolding layout
layout-Coalesce input k = ap (λ (f : Laying). f k) (ap layout (sym (rolls-Coalesce input)) ∙ fold-roll-Plan Laying lay (Plan-F.Coalesce input))

pub layout-Repartition : (input : Plan) (to : Partitioning) (k : ℕ) → layout (Repartition input to) k ≡ lay (Plan-F.Repartition (layout input) to) k
unfolding layout
layout-Repartition input to k = ap (λ (f : Laying). f k) (ap layout (sym (rolls-Repartition input to)) ∙ fold-roll-Plan Laying lay (Plan-F.Repartition input to))

pub layout-UnionAll : (inputs : List Plan) (k : ℕ) → layout (UnionAll inputs) k ≡ lay (Plan-F.UnionAll (map layout inputs)) k
unfolding layout
layout-UnionAll inputs k = ap (λ (f : Laying). f k) (ap layout (sym (rolls-UnionAll inputs)) ∙ fold-roll-Plan Laying lay (Plan-F.UnionAll inputs))

pub layout-Limit : (input : Plan) (skip : ℕ) (fetch : Option ℕ) (k : ℕ) → layout (Limit input skip fetch) k ≡ lay (Plan-F.Limit (layout input) skip fetch) k
unfolding layout
layout-Limit input skip fetch k = ap (λ (f : Laying). f k) (ap layout (sym (rolls-Limit input skip fetch)) ∙ fold-roll-Plan Laying lay (Plan-F.Limit input skip fetch))

pub ruleset layout_nodes = (layout-Scan, layout-Filter, layout-Project, layout-PartialGroup, layout-FinalGroup, layout-HashJoin, layout-Sort, layout-Merge, layout-Coalesce, layout-Repartition, layout-UnionAll, layout-Limit)

pub counts-Scan : (table : ℕ) (kinds : List Kind) (files : ℕ) (partitions : ℕ) → counts_of (Scan table kinds files partitions) ≡ count_node (Plan-F.Scan table kinds files partitions)
unfolding counts_of
counts-Scan table kinds files partitions = ap counts_of (sym (rolls-Scan table kinds files partitions)) ∙ fold-roll-Plan Counted count_node (Plan-F.Scan table kinds files partitions)

pub counts-Filter : (input : Plan) (test : Expr) → counts_of (Filter input test) ≡ count_node (Plan-F.Filter (counts_of input) test)
unfolding counts_of
counts-Filter input test = ap counts_of (sym (rolls-Filter input test)) ∙ fold-roll-Plan Counted count_node (Plan-F.Filter input test)

pub counts-Project : (input : Plan) (items : List Expr) → counts_of (Project input items) ≡ count_node (Plan-F.Project (counts_of input) items)
unfolding counts_of
counts-Project input items = ap counts_of (sym (rolls-Project input items)) ∙ fold-roll-Plan Counted count_node (Plan-F.Project input items)

pub counts-PartialGroup : (input : Plan) (keys : List ℕ) (calls : List AggCall) → counts_of (PartialGroup input keys calls) ≡ count_node (Plan-F.PartialGroup (counts_of input) keys calls)
unfolding counts_of
counts-PartialGroup input keys calls = ap counts_of (sym (rolls-PartialGroup input keys calls)) ∙ fold-roll-Plan Counted count_node (Plan-F.PartialGroup input keys calls)

pub counts-FinalGroup : (input : Plan) (keys : List ℕ) (calls : List AggCall) → counts_of (FinalGroup input keys calls) ≡ count_node (Plan-F.FinalGroup (counts_of input) keys calls)
unfolding counts_of
counts-FinalGroup input keys calls = ap counts_of (sym (rolls-FinalGroup input keys calls)) ∙ fold-roll-Plan Counted count_node (Plan-F.FinalGroup input keys calls)

pub counts-HashJoin : (kind : JoinKind) (left : Plan) (right : Plan) (keys : List (ℕ × ℕ)) (rest : Option Expr) → counts_of (HashJoin kind left right keys rest) ≡ count_node (Plan-F.HashJoin kind (counts_of left) (counts_of right) keys rest)
unfolding counts_of
counts-HashJoin kind left right keys rest = ap counts_of (sym (rolls-HashJoin kind left right keys rest)) ∙ fold-roll-Plan Counted count_node (Plan-F.HashJoin kind left right keys rest)

pub counts-Sort : (input : Plan) (keys : List SortKey) → counts_of (Sort input keys) ≡ count_node (Plan-F.Sort (counts_of input) keys)
unfolding counts_of
counts-Sort input keys = ap counts_of (sym (rolls-Sort input keys)) ∙ fold-roll-Plan Counted count_node (Plan-F.Sort input keys)

pub counts-Merge : (input : Plan) (keys : List SortKey) → counts_of (Merge input keys) ≡ count_node (Plan-F.Merge (counts_of input) keys)
unfolding counts_of
counts-Merge input keys = ap counts_of (sym (rolls-Merge input keys)) ∙ fold-roll-Plan Counted count_node (Plan-F.Merge input keys)

pub counts-Coalesce : (input : Plan) → counts_of (Coalesce input) ≡ count_node (Plan-F.Coalesce (counts_of input))
unfolding counts_of
counts-Coalesce input = ap counts_of (sym (rolls-Coalesce input)) ∙ fold-roll-Plan Counted count_node (Plan-F.Coalesce input)

pub counts-Repartition : (input : Plan) (to : Partitioning) → counts_of (Repartition input to) ≡ count_node (Plan-F.Repartition (counts_of input) to)
unfolding counts_of
counts-Repartition input to = ap counts_of (sym (rolls-Repartition input to)) ∙ fold-roll-Plan Counted count_node (Plan-F.Repartition input to)

pub counts-UnionAll : (inputs : List Plan) → counts_of (UnionAll inputs) ≡ count_node (Plan-F.UnionAll (map counts_of inputs))
unfolding counts_of
counts-UnionAll inputs = ap counts_of (sym (rolls-UnionAll inputs)) ∙ fold-roll-Plan Counted count_node (Plan-F.UnionAll inputs)

pub counts-Limit : (input : Plan) (skip : ℕ) (fetch : Option ℕ) → counts_of (Limit input skip fetch) ≡ count_node (Plan-F.Limit (counts_of input) skip fetch)
unfolding counts_of
counts-Limit input skip fetch = ap counts_of (sym (rolls-Limit input skip fetch)) ∙ fold-roll-Plan Counted count_node (Plan-F.Limit input skip fetch)

pub ruleset counts_nodes = (counts-Scan, counts-Filter, counts-Project, counts-PartialGroup, counts-FinalGroup, counts-HashJoin, counts-Sort, counts-Merge, counts-Coalesce, counts-Repartition, counts-UnionAll, counts-Limit)
