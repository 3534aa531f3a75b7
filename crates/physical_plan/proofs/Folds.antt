-- A node of a plan unrolled: what a fold gives there, from what it gives at the inputs, whichever the fold.
use Rattle.std.proofs.Common.{◌≡◌, ℕ, List, [], ◌∷◌, Option, map, ap, sym, refl, ◌∙◌}
use Rattle.dfx_value.specs.declared.kind.Kind.{Kind}
use Rattle.dfx_value.specs.declared.rows.SortKey.{SortKey}
use Rattle.scalar_exprs.specs.declared.expr.Expr.{Expr}
use Rattle.dfx_value.specs.declared.op.JoinKind.{JoinKind}
use Rattle.dfx_value.specs.declared.op.AggCall.{AggCall}
use Rattle.plan_props.specs.declared.properties.Partitioning.{Partitioning}
use Rattle.physical_plan.specs.declared.plan.Plan.{Plan}
use Rattle.physical_plan.specs.declared.plan.Plan.TheOpen.{Plan-F}
use Rattle.physical_plan.specs.declared.plan.Plan.TheViews.{roll-Plan}
use Rattle.physical_plan.specs.declared.plan.Plan.TheFolds.{map-Plan, fold-Plan, fold-roll-Plan, para-Plan, para-roll-Plan}
use Rattle.physical_plan.specs.declared.plan.Plan.TheVariants.{Scan, Filter, Project, PartialGroup, FinalGroup, HashJoin, Sort, Merge, Coalesce, Repartition, UnionAll, Limit, rolls-Scan, rolls-Filter, rolls-Project, rolls-PartialGroup, rolls-FinalGroup, rolls-HashJoin, rolls-Sort, rolls-Merge, rolls-Coalesce, rolls-Repartition, rolls-UnionAll, rolls-Limit}
use Rattle.physical_plan.specs.Rebuilt.{rebuilt}
use Rattle.physical_plan.specs.Everywhere.{kids}

pub rolls : (z : Plan-F Plan) → roll-Plan z ≡ rebuilt z
rolls (Plan-F.Scan table kinds files partitions) = rolls-Scan table kinds files partitions
rolls (Plan-F.Filter input test) = rolls-Filter input test
rolls (Plan-F.Project input items) = rolls-Project input items
rolls (Plan-F.PartialGroup input keys calls) = rolls-PartialGroup input keys calls
rolls (Plan-F.FinalGroup input keys calls) = rolls-FinalGroup input keys calls
rolls (Plan-F.HashJoin kind left right keys rest) = rolls-HashJoin kind left right keys rest
rolls (Plan-F.Sort input keys) = rolls-Sort input keys
rolls (Plan-F.Merge input keys) = rolls-Merge input keys
rolls (Plan-F.Coalesce input) = rolls-Coalesce input
rolls (Plan-F.Repartition input to) = rolls-Repartition input to
rolls (Plan-F.UnionAll inputs) = rolls-UnionAll inputs
rolls (Plan-F.Limit input skip fetch) = rolls-Limit input skip fetch

-- a fold at a node
pub folded : (A : Type 0) (step : Plan-F A → A) (z : Plan-F Plan) → fold-Plan A step (rebuilt z) ≡ step (map-Plan Plan A (fold-Plan A step) z)
folded A step z = ap (fold-Plan A step) (sym (rolls z)) ∙ fold-roll-Plan A step z

-- the same, where a node sees its inputs' plans beside their values
pub beside : (A : Type 0) (step : Plan-F (Plan × A) → A) (z : Plan-F Plan) → para-Plan A step (rebuilt z) ≡ step (map-Plan Plan (Plan × A) (λ p. (p, para-Plan A step p)) z)
beside A step z = ap (para-Plan A step) (sym (rolls z)) ∙ para-roll-Plan A step z

-- ---- what a node's inputs are mapped to

maps : {A B C : Type 0} (g : B → C) (f : A → B) (xs : List A) → map g (map f xs) ≡ map (λ x. g (f x)) xs
maps g f [] = refl
maps g f (x ∷ xs) = ap (λ ys. g (f x) ∷ ys) (maps g f xs)

same : {A : Type 0} (xs : List A) → map (λ x. x) xs ≡ xs
same [] = refl
same (x ∷ xs) = ap (λ ys. x ∷ ys) (same xs)

pub mapped : (A B C : Type 0) (g : B → C) (f : A → B) (z : Plan-F A) → map-Plan B C g (map-Plan A B f z) ≡ map-Plan A C (λ x. g (f x)) z
mapped A B C g f (Plan-F.UnionAll inputs) = ap Plan-F.UnionAll (maps g f inputs)
mapped A B C g f _ = refl

pub unchanged : (A : Type 0) (z : Plan-F A) → map-Plan A A (λ x. x) z ≡ z
unchanged A (Plan-F.UnionAll inputs) = ap Plan-F.UnionAll (same inputs)
unchanged A _ = refl

pub kids_mapped : (A B : Type 0) (f : A → B) (z : Plan-F A) → kids (map-Plan A B f z) ≡ map f (kids z)
kids_mapped A B f (Plan-F.UnionAll inputs) = refl
kids_mapped A B f _ = refl

-- ---- node by node

pub folded-Scan : (A : Type 0) (step : Plan-F A → A) (table : ℕ) (kinds : List Kind) (files : ℕ) (partitions : ℕ) → fold-Plan A step (Scan table kinds files partitions) ≡ step (Plan-F.Scan table kinds files partitions)
folded-Scan A step table kinds files partitions = folded A step (Plan-F.Scan table kinds files partitions)

pub folded-Filter : (A : Type 0) (step : Plan-F A → A) (input : Plan) (test : Expr) → fold-Plan A step (Filter input test) ≡ step (Plan-F.Filter (fold-Plan A step input) test)
folded-Filter A step input test = folded A step (Plan-F.Filter input test)

pub folded-Project : (A : Type 0) (step : Plan-F A → A) (input : Plan) (items : List Expr) → fold-Plan A step (Project input items) ≡ step (Plan-F.Project (fold-Plan A step input) items)
folded-Project A step input items = folded A step (Plan-F.Project input items)

pub folded-PartialGroup : (A : Type 0) (step : Plan-F A → A) (input : Plan) (keys : List ℕ) (calls : List AggCall) → fold-Plan A step (PartialGroup input keys calls) ≡ step (Plan-F.PartialGroup (fold-Plan A step input) keys calls)
folded-PartialGroup A step input keys calls = folded A step (Plan-F.PartialGroup input keys calls)

pub folded-FinalGroup : (A : Type 0) (step : Plan-F A → A) (input : Plan) (keys : List ℕ) (calls : List AggCall) → fold-Plan A step (FinalGroup input keys calls) ≡ step (Plan-F.FinalGroup (fold-Plan A step input) keys calls)
folded-FinalGroup A step input keys calls = folded A step (Plan-F.FinalGroup input keys calls)

pub folded-HashJoin : (A : Type 0) (step : Plan-F A → A) (kind : JoinKind) (left : Plan) (right : Plan) (keys : List (ℕ × ℕ)) (rest : Option Expr) → fold-Plan A step (HashJoin kind left right keys rest) ≡ step (Plan-F.HashJoin kind (fold-Plan A step left) (fold-Plan A step right) keys rest)
folded-HashJoin A step kind left right keys rest = folded A step (Plan-F.HashJoin kind left right keys rest)

pub folded-Sort : (A : Type 0) (step : Plan-F A → A) (input : Plan) (keys : List SortKey) → fold-Plan A step (Sort input keys) ≡ step (Plan-F.Sort (fold-Plan A step input) keys)
folded-Sort A step input keys = folded A step (Plan-F.Sort input keys)

pub folded-Merge : (A : Type 0) (step : Plan-F A → A) (input : Plan) (keys : List SortKey) → fold-Plan A step (Merge input keys) ≡ step (Plan-F.Merge (fold-Plan A step input) keys)
folded-Merge A step input keys = folded A step (Plan-F.Merge input keys)

pub folded-Coalesce : (A : Type 0) (step : Plan-F A → A) (input : Plan) → fold-Plan A step (Coalesce input) ≡ step (Plan-F.Coalesce (fold-Plan A step input))
folded-Coalesce A step input = folded A step (Plan-F.Coalesce input)

pub folded-Repartition : (A : Type 0) (step : Plan-F A → A) (input : Plan) (to : Partitioning) → fold-Plan A step (Repartition input to) ≡ step (Plan-F.Repartition (fold-Plan A step input) to)
folded-Repartition A step input to = folded A step (Plan-F.Repartition input to)

pub folded-UnionAll : (A : Type 0) (step : Plan-F A → A) (inputs : List Plan) → fold-Plan A step (UnionAll inputs) ≡ step (Plan-F.UnionAll (map (fold-Plan A step) inputs))
folded-UnionAll A step inputs = folded A step (Plan-F.UnionAll inputs)

pub folded-Limit : (A : Type 0) (step : Plan-F A → A) (input : Plan) (skip : ℕ) (fetch : Option ℕ) → fold-Plan A step (Limit input skip fetch) ≡ step (Plan-F.Limit (fold-Plan A step input) skip fetch)
folded-Limit A step input skip fetch = folded A step (Plan-F.Limit input skip fetch)

pub ruleset folded_nodes = (folded-Scan, folded-Filter, folded-Project, folded-PartialGroup, folded-FinalGroup, folded-HashJoin, folded-Sort, folded-Merge, folded-Coalesce, folded-Repartition, folded-UnionAll, folded-Limit)
