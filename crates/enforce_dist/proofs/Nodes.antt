-- Exchanges, node by node.
use Rattle.std.proofs.Common.{◌≡◌, ℕ, List, Option, Bool, map, ap}
use Rattle.dfx_value.specs.declared.kind.Kind.{Kind}
use Rattle.dfx_value.specs.declared.rows.SortKey.{SortKey}
use Rattle.scalar_exprs.specs.declared.expr.Expr.{Expr}
use Rattle.dfx_value.specs.declared.op.JoinKind.{JoinKind}
use Rattle.dfx_value.specs.declared.op.AggCall.{AggCall}
use Rattle.plan_props.specs.declared.properties.Partitioning.{Partitioning}
use Rattle.physical_plan.specs.declared.plan.Plan.{Plan}
use Rattle.physical_plan.specs.declared.plan.Plan.TheOpen.{Plan-F}
use Rattle.physical_plan.specs.declared.plan.Plan.TheVariants.{Scan, Filter, Project, PartialGroup, FinalGroup, HashJoin, Sort, Merge, Coalesce, Repartition, UnionAll, Limit}
use Rattle.physical_plan.proofs.Folds.{folded}
use Rattle.enforce_dist.specs.Distribute.{Below, distribute, distributed}

pub distributed-Scan : (n : ℕ) (table : ℕ) (kinds : List Kind) (files : ℕ) (partitions : ℕ) (above : Bool) → distributed n (Scan table kinds files partitions) above ≡ distribute n (Plan-F.Scan table kinds files partitions) above
unfolding distributed
distributed-Scan n table kinds files partitions above = ap (λ (f : Below). f above) (folded Below (distribute n) (Plan-F.Scan table kinds files partitions))

pub distributed-Filter : (n : ℕ) (input : Plan) (test : Expr) (above : Bool) → distributed n (Filter input test) above ≡ distribute n (Plan-F.Filter (distributed n input) test) above
unfolding distributed
distributed-Filter n input test above = ap (λ (f : Below). f above) (folded Below (distribute n) (Plan-F.Filter input test))

pub distributed-Project : (n : ℕ) (input : Plan) (items : List Expr) (above : Bool) → distributed n (Project input items) above ≡ distribute n (Plan-F.Project (distributed n input) items) above
unfolding distributed
distributed-Project n input items above = ap (λ (f : Below). f above) (folded Below (distribute n) (Plan-F.Project input items))

pub distributed-PartialGroup : (n : ℕ) (input : Plan) (keys : List ℕ) (calls : List AggCall) (above : Bool) → distributed n (PartialGroup input keys calls) above ≡ distribute n (Plan-F.PartialGroup (distributed n input) keys calls) above
unfolding distributed
distributed-PartialGroup n input keys calls above = ap (λ (f : Below). f above) (folded Below (distribute n) (Plan-F.PartialGroup input keys calls))

pub distributed-FinalGroup : (n : ℕ) (input : Plan) (keys : List ℕ) (calls : List AggCall) (above : Bool) → distributed n (FinalGroup input keys calls) above ≡ distribute n (Plan-F.FinalGroup (distributed n input) keys calls) above
unfolding distributed
distributed-FinalGroup n input keys calls above = ap (λ (f : Below). f above) (folded Below (distribute n) (Plan-F.FinalGroup input keys calls))

pub distributed-HashJoin : (n : ℕ) (kind : JoinKind) (left : Plan) (right : Plan) (keys : List (ℕ × ℕ)) (rest : Option Expr) (above : Bool) → distributed n (HashJoin kind left right keys rest) above ≡ distribute n (Plan-F.HashJoin kind (distributed n left) (distributed n right) keys rest) above
unfolding distributed
distributed-HashJoin n kind left right keys rest above = ap (λ (f : Below). f above) (folded Below (distribute n) (Plan-F.HashJoin kind left right keys rest))

pub distributed-Sort : (n : ℕ) (input : Plan) (keys : List SortKey) (above : Bool) → distributed n (Sort input keys) above ≡ distribute n (Plan-F.Sort (distributed n input) keys) above
unfolding distributed
distributed-Sort n input keys above = ap (λ (f : Below). f above) (folded Below (distribute n) (Plan-F.Sort input keys))

pub distributed-Merge : (n : ℕ) (input : Plan) (keys : List SortKey) (above : Bool) → distributed n (Merge input keys) above ≡ distribute n (Plan-F.Merge (distributed n input) keys) above
unfolding distributed
distributed-Merge n input keys above = ap (λ (f : Below). f above) (folded Below (distribute n) (Plan-F.Merge input keys))

pub distributed-Coalesce : (n : ℕ) (input : Plan) (above : Bool) → distributed n (Coalesce input) above ≡ distribute n (Plan-F.Coalesce (distributed n input)) above
unfolding distributed
distributed-Coalesce n input above = ap (λ (f : Below). f above) (folded Below (distribute n) (Plan-F.Coalesce input))

pub distributed-Repartition : (n : ℕ) (input : Plan) (to : Partitioning) (above : Bool) → distributed n (Repartition input to) above ≡ distribute n (Plan-F.Repartition (distributed n input) to) above
unfolding distributed
distributed-Repartition n input to above = ap (λ (f : Below). f above) (folded Below (distribute n) (Plan-F.Repartition input to))

pub distributed-UnionAll : (n : ℕ) (inputs : List Plan) (above : Bool) → distributed n (UnionAll inputs) above ≡ distribute n (Plan-F.UnionAll (map (distributed n) inputs)) above
unfolding distributed
distributed-UnionAll n inputs above = ap (λ (f : Below). f above) (folded Below (distribute n) (Plan-F.UnionAll inputs))

pub distributed-Limit : (n : ℕ) (input : Plan) (skip : ℕ) (fetch : Option ℕ) (above : Bool) → distributed n (Limit input skip fetch) above ≡ distribute n (Plan-F.Limit (distributed n input) skip fetch) above
unfolding distributed
distributed-Limit n input skip fetch above = ap (λ (f : Below). f above) (folded Below (distribute n) (Plan-F.Limit input skip fetch))

pub ruleset distributed_nodes = (distributed-Scan, distributed-Filter, distributed-Project, distributed-PartialGroup, distributed-FinalGroup, distributed-HashJoin, distributed-Sort, distributed-Merge, distributed-Coalesce, distributed-Repartition, distributed-UnionAll, distributed-Limit)
