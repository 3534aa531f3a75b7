-- Which scans are to be spread, and which are, node by node.
use Rattle.std.proofs.Common.{◌≡◌, ℕ, List, Option, Bool, map, ap, sym, ◌∙◌}
use Rattle.dfx_value.specs.declared.kind.Kind.{Kind}
use Rattle.dfx_value.specs.declared.rows.SortKey.{SortKey}
use Rattle.scalar_exprs.specs.declared.expr.Expr.{Expr}
use Rattle.dfx_value.specs.declared.op.JoinKind.{JoinKind}
use Rattle.dfx_value.specs.declared.op.AggCall.{AggCall}
use Rattle.plan_props.specs.declared.properties.Partitioning.{Partitioning}
use Rattle.physical_plan.specs.declared.plan.Plan.{Plan}
use Rattle.physical_plan.specs.declared.plan.Plan.TheOpen.{Plan-F}
use Rattle.physical_plan.specs.declared.plan.Plan.TheFolds.{fold-roll-Plan}
use Rattle.physical_plan.specs.declared.plan.Plan.TheVariants.{Scan, Filter, Project, PartialGroup, FinalGroup, HashJoin, Sort, Merge, Coalesce, Repartition, UnionAll, Limit, rolls-Scan, rolls-Filter, rolls-Project, rolls-PartialGroup, rolls-FinalGroup, rolls-HashJoin, rolls-Sort, rolls-Merge, rolls-Coalesce, rolls-Repartition, rolls-UnionAll, rolls-Limit}
use Rattle.planned_laws.specs.Finished.{Wanting, wanted_node, wanted, found_node, found}

pub wanted-Scan : (n : ℕ) (table : ℕ) (kinds : List Kind) (files : ℕ) (partitions : ℕ) (above : Bool) → wanted n (Scan table kinds files partitions) above ≡ wanted_node n (Plan-F.Scan table kinds files partitions) above
unfolding wanted
wanted-Scan n table kinds files partitions above = ap (λ (f : Wanting). f above) (ap (wanted n) (sym (rolls-Scan table kinds files partitions)) ∙ fold-roll-Plan Wanting (wanted_node n) (Plan-F.Scan table kinds files partitions))

pub wanted-Filter : (n : ℕ) (input : Plan) (test : Expr) (above : Bool) → wanted n (Filter input test) above ≡ wanted_node n (Plan-F.Filter (wanted n input) test) above
unfolding wanted
wanted-Filter n input test above = ap (λ (f : Wanting). f above) (ap (wanted n) (sym (rolls-Filter input test)) ∙ fold-roll-Plan Wanting (wanted_node n) (Plan-F.Filter input test))

pub wanted-Project : (n : ℕ) (input : Plan) (items : List Expr) (above : Bool) → wanted n (Project input items) above ≡ wanted_node n (Plan-F.Project (wanted n input) items) above
unfolding wanted
wanted-Project n input items above = ap (λ (f : Wanting). f above) (ap (wanted n) (sym (rolls-Project input items)) ∙ fold-roll-Plan Wanting (wanted_node n) (Plan-F.Project input items))

pub wanted-PartialGroup : (n : ℕ) (input : Plan) (keys : List ℕ) (calls : List AggCall) (above : Bool) → wanted n (PartialGroup input keys calls) above ≡ wanted_node n (Plan-F.PartialGroup (wanted n input) keys calls) above
unfolding wanted
wanted-PartialGroup n input keys calls above = ap (λ (f : Wanting). f above) (ap (wanted n) (sym (rolls-PartialGroup input keys calls)) ∙ fold-roll-Plan Wanting (wanted_node n) (Plan-F.PartialGroup input keys calls))

pub wanted-FinalGroup : (n : ℕ) (input : Plan) (keys : List ℕ) (calls : List AggCall) (above : Bool) → wanted n (FinalGroup input keys calls) above ≡ wanted_node n (Plan-F.FinalGroup (wanted n input) keys calls) above
unfolding wanted
wanted-FinalGroup n input keys calls above = ap (λ (f : Wanting). f above) (ap (wanted n) (sym (rolls-FinalGroup input keys calls)) ∙ fold-roll-Plan Wanting (wanted_node n) (Plan-F.FinalGroup input keys calls))

pub wanted-HashJoin : (n : ℕ) (kind : JoinKind) (left : Plan) (right : Plan) (keys : List (ℕ × ℕ)) (rest : Option Expr) (above : Bool) → wanted n (HashJoin kind left right keys rest) above ≡ wanted_node n (Plan-F.HashJoin kind (wanted n left) (wanted n right) keys rest) above
unfolding wanted
wanted-HashJoin n kind left right keys rest above = ap (λ (f : Wanting). f above) (ap (wanted n) (sym (rolls-HashJoin kind left right keys rest)) ∙ fold-roll-Plan Wanting (wanted_node n) (Plan-F.HashJoin kind left right keys rest))

pub wanted-Sort : (n : ℕ) (input : Plan) (keys : List SortKey) (above : Bool) → wanted n (Sort input keys) above ≡ wanted_node n (Plan-F.Sort (wanted n input) keys) above
unfolding wanted
wanted-Sort n input keys above = ap (λ (f : Wanting). f above) (ap (wanted n) (sym (rolls-Sort input keys)) ∙ fold-roll-Plan Wanting (wanted_node n) (Plan-F.Sort input keys))

pub wanted-Merge : (n : ℕ) (input : Plan) (keys : List SortKey) (above : Bool) → wanted n (Merge input keys) above ≡ wanted_node n (Plan-F.Merge (wanted n input) keys) above
unfolding wanted
wanted-Merge n input keys above = ap (λ (f : Wanting). f above) (ap (wanted n) (sym (rolls-Merge input keys)) ∙ fold-roll-Plan Wanting (wanted_node n) (Plan-F.Merge input keys))

pub wanted-Coalesce : (n : ℕ) (input : Plan) (above : Bool) → wanted n (Coalesce input) above ≡ wanted_node n (Plan-F.Coalesce (wanted n input)) above
unfolding wanted
wanted-Coalesce n input above = ap (λ (f : Wanting). f above) (ap (wanted n) (sym (rolls-Coalesce input)) ∙ fold-roll-Plan Wanting (wanted_node n) (Plan-F.Coalesce input))

pub wanted-Repartition : (n : ℕ) (input : Plan) (to : Partitioning) (above : Bool) → wanted n (Repartition input to) above ≡ wanted_node n (Plan-F.Repartition (wanted n input) to) above
unfolding wanted
wanted-Repartition n input to above = ap (λ (f : Wanting). f above) (ap (wanted n) (sym (rolls-Repartition input to)) ∙ fold-roll-Plan Wanting (wanted_node n) (Plan-F.Repartition input to))

pub wanted-UnionAll : (n : ℕ) (inputs : List Plan) (above : Bool) → wanted n (UnionAll inputs) above ≡ wanted_node n (Plan-F.UnionAll (map (wanted n) inputs)) above
unfolding wanted
wanted-UnionAll n inputs above = ap (λ (f : Wanting). f above) (ap (wanted n) (sym (rolls-UnionAll inputs)) ∙ fold-roll-Plan Wanting (wanted_node n) (Plan-F.UnionAll inputs))

pub wanted-Limit : (n : ℕ) (input : Plan) (skip : ℕ) (fetch : Option ℕ) (above : Bool) → wanted n (Limit input skip fetch) above ≡ wanted_node n (Plan-F.Limit (wanted n input) skip fetch) above
unfolding wanted
wanted-Limit n input skip fetch above = ap (λ (f : Wanting). f above) (ap (wanted n) (sym (rolls-Limit input skip fetch)) ∙ fold-roll-Plan Wanting (wanted_node n) (Plan-F.Limit input skip fetch))

pub found-Scan : (table : ℕ) (kinds : List Kind) (files : ℕ) (partitions : ℕ) (above : Bool) → found (Scan table kinds files partitions) above ≡ found_node (Plan-F.Scan table kinds files partitions) above
unfolding found
found-Scan table kinds files partitions above = ap (λ (f : Wanting). f above) (ap (found) (sym (rolls-Scan table kinds files partitions)) ∙ fold-roll-Plan Wanting (found_node) (Plan-F.Scan table kinds files partitions))

pub found-Filter : (input : Plan) (test : Expr) (above : Bool) → found (Filter input test) above ≡ found_node (Plan-F.Filter (found input) test) above
unfolding found
found-Filter input test above = ap (λ (f : Wanting). f above) (ap (found) (sym (rolls-Filter input test)) ∙ fold-roll-Plan Wanting (found_node) (Plan-F.Filter input test))

pub found-Project : (input : Plan) (items : List Expr) (above : Bool) → found (Project input items) above ≡ found_node (Plan-F.Project (found input) items) above
unfolding found
found-Project input items above = ap (λ (f : Wanting). f above) (ap (found) (sym (rolls-Project input items)) ∙ fold-roll-Plan Wanting (found_node) (Plan-F.Project input items))

pub found-PartialGroup : (input : Plan) (keys : List ℕ) (calls : List AggCall) (above : Bool) → found (PartialGroup input keys calls) above ≡ found_node (Plan-F.PartialGroup (found input) keys calls) above
unfolding found
found-PartialGroup input keys calls above = ap (λ (f : Wanting). f above) (ap (found) (sym (rolls-PartialGroup input keys calls)) ∙ fold-roll-Plan Wanting (found_node) (Plan-F.PartialGroup input keys calls))

pub found-FinalGroup : (input : Plan) (keys : List ℕ) (calls : List AggCall) (above : Bool) → found (FinalGroup input keys calls) above ≡ found_node (Plan-F.FinalGroup (found input) keys calls) above
unfolding found
found-FinalGroup input keys calls above = ap (λ (f : Wanting). f above) (ap (found) (sym (rolls-FinalGroup input keys calls)) ∙ fold-roll-Plan Wanting (found_node) (Plan-F.FinalGroup input keys calls))

pub found-HashJoin : (kind : JoinKind) (left : Plan) (right : Plan) (keys : List (ℕ × ℕ)) (rest : Option Expr) (above : Bool) → found (HashJoin kind left right keys rest) above ≡ found_node (Plan-F.HashJoin kind (found left) (found right) keys rest) above
unfolding found
found-HashJoin kind left right keys rest above = ap (λ (f : Wanting). f above) (ap (found) (sym (rolls-HashJoin kind left right keys rest)) ∙ fold-roll-Plan Wanting (found_node) (Plan-F.HashJoin kind left right keys rest))

pub found-Sort : (input : Plan) (keys : List SortKey) (above : Bool) → found (Sort input keys) above ≡ found_node (Plan-F.Sort (found input) keys) above
unfolding found
found-Sort input keys above = ap (λ (f : Wanting). f above) (ap (found) (sym (rolls-Sort input keys)) ∙ fold-roll-Plan Wanting (found_node) (Plan-F.Sort input keys))

pub found-Merge : (input : Plan) (keys : List SortKey) (above : Bool) → found (Merge input keys) above ≡ found_node (Plan-F.Merge (found input) keys) above
unfolding found
found-Merge input keys above = ap (λ (f : Wanting). f above) (ap (found) (sym (rolls-Merge input keys)) ∙ fold-roll-Plan Wanting (found_node) (Plan-F.Merge input keys))

pub found-Coalesce : (input : Plan) (above : Bool) → found (Coalesce input) above ≡ found_node (Plan-F.Coalesce (found input)) above
unfolding found
found-Coalesce input above = ap (λ (f : Wanting). f above) (ap (found) (sym (rolls-Coalesce input)) ∙ fold-roll-Plan Wanting (found_node) (Plan-F.Coalesce input))

pub found-Repartition : (input : Plan) (to : Partitioning) (above : Bool) → found (Repartition input to) above ≡ found_node (Plan-F.Repartition (found input) to) above
unfolding found
found-Repartition input to above = ap (λ (f : Wanting). f above) (ap (found) (sym (rolls-Repartition input to)) ∙ fold-roll-Plan Wanting (found_node) (Plan-F.Repartition input to))

pub found-UnionAll : (inputs : List Plan) (above : Bool) → found (UnionAll inputs) above ≡ found_node (Plan-F.UnionAll (map (found) inputs)) above
unfolding found
found-UnionAll inputs above = ap (λ (f : Wanting). f above) (ap (found) (sym (rolls-UnionAll inputs)) ∙ fold-roll-Plan Wanting (found_node) (Plan-F.UnionAll inputs))

pub found-Limit : (input : Plan) (skip : ℕ) (fetch : Option ℕ) (above : Bool) → found (Limit input skip fetch) above ≡ found_node (Plan-F.Limit (found input) skip fetch) above
unfolding found
found-Limit input skip fetch above = ap (λ (f : Wanting). f above) (ap (found) (sym (rolls-Limit input skip fetch)) ∙ fold-roll-Plan Wanting (found_node) (Plan-F.Limit input skip fetch))
