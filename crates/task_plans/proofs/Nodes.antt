-- Which plans are built, and how many stages and sources a plan has, node by node.
use Rattle.std.specs.List.{list_all}
use Rattle.std.proofs.Common.{◌≡◌, ℕ, ◌+◌, Bool, true, false, ◌&&◌, List, [], ◌∷◌, Option, map, ap, sym, ◌∙◌, refl, is_some}
use Rattle.dfx_value.specs.declared.kind.Kind.{Kind}
use Rattle.dfx_value.specs.declared.rows.SortKey.{SortKey}
use Rattle.dfx_value.specs.declared.op.AggCall.{AggCall}
use Rattle.dfx_value.specs.declared.op.JoinKind.{JoinKind}
use Rattle.scalar_exprs.specs.declared.expr.Expr.{Expr}
use Rattle.plan_props.specs.declared.properties.Partitioning.{Partitioning}
use Rattle.physical_plan.specs.declared.plan.Plan.{Plan}
use Rattle.physical_plan.specs.declared.plan.Plan.TheOpen.{Plan-F}
use Rattle.physical_plan.specs.declared.plan.Plan.TheViews.{roll-Plan}
use Rattle.physical_plan.specs.declared.plan.Plan.TheFolds.{fold-roll-Plan, para-roll-Plan, map-Plan}
use Rattle.physical_plan.specs.declared.plan.Plan.TheVariants.{Scan, Filter, Project, PartialGroup, FinalGroup, HashJoin, Sort, Merge, Coalesce, Repartition, UnionAll, Limit, rolls-Scan, rolls-Filter, rolls-Project, rolls-PartialGroup, rolls-FinalGroup, rolls-HashJoin, rolls-Sort, rolls-Merge, rolls-Coalesce, rolls-Repartition, rolls-UnionAll, rolls-Limit}
use Rattle.physical_plan.specs.Everywhere.{everywhere, node_holds, all_true}
use Rattle.plan_shape.proofs.Nodes.{counts-Scan, counts-Filter, counts-Project, counts-PartialGroup, counts-FinalGroup, counts-HashJoin, counts-Sort, counts-Merge, counts-Coalesce, counts-Repartition, counts-UnionAll, counts-Limit}
use Rattle.plan_task_laws.specs.Trees.{count_stages, stages_in, count_sources, sources_in, sum_all}
use Rattle.plan_kinds.specs.Kinds.{kinds, inputs_have_kinds}
use Rattle.task_plans.specs.Built.{is_in_turn, built_node, is_built}

-- ---- built plans

built_at : (p : Plan) (z : Plan-F Plan) → roll-Plan z ≡ p → is_built p ≡ node_holds built_node (map-Plan Plan (Plan × Bool) (λ q. (q, is_built q)) z)
unfolding everywhere
built_at p z r = ap is_built (sym r) ∙ para-roll-Plan Bool (node_holds built_node) z

and_true : (b : Bool) → b && true ≡ b
and_true true = refl
and_true false = refl

pairs : (ps : List Plan) → all_true (map (λ (p : Plan × Bool). p.1) (map (λ (q : Plan). (q, is_built q)) ps)) ≡ all_true (map is_built ps)
pairs [] = refl
pairs (p ∷ ps) = ap (λ b. is_built p && b) (pairs ps)

pub built-Scan : (table : ℕ) (ks : List Kind) (files partitions : ℕ) → is_built (Scan table ks files partitions) ≡ true
built-Scan table ks files partitions = built_at (Scan table ks files partitions) (Plan-F.Scan table ks files partitions) (rolls-Scan table ks files partitions)

pub built-Filter : (input : Plan) (test : Expr) → is_built (Filter input test) ≡ is_built input
built-Filter input test = built_at (Filter input test) (Plan-F.Filter input test) (rolls-Filter input test) ∙ and_true (is_built input)

pub built-Project : (input : Plan) (items : List Expr) → is_built (Project input items) ≡ is_built input
built-Project input items = built_at (Project input items) (Plan-F.Project input items) (rolls-Project input items) ∙ and_true (is_built input)

pub built-PartialGroup : (input : Plan) (keys : List ℕ) (calls : List AggCall) → is_built (PartialGroup input keys calls) ≡ false
built-PartialGroup input keys calls = built_at (PartialGroup input keys calls) (Plan-F.PartialGroup input keys calls) (rolls-PartialGroup input keys calls)

pub built-FinalGroup : (input : Plan) (keys : List ℕ) (calls : List AggCall) → is_built (FinalGroup input keys calls) ≡ false
built-FinalGroup input keys calls = built_at (FinalGroup input keys calls) (Plan-F.FinalGroup input keys calls) (rolls-FinalGroup input keys calls)

pub built-HashJoin : (kind : JoinKind) (left right : Plan) (keys : List (ℕ × ℕ)) (rest : Option Expr) → is_built (HashJoin kind left right keys rest) ≡ false
built-HashJoin kind left right keys rest = built_at (HashJoin kind left right keys rest) (Plan-F.HashJoin kind left right keys rest) (rolls-HashJoin kind left right keys rest)

pub built-Sort : (input : Plan) (keys : List SortKey) → is_built (Sort input keys) ≡ false
built-Sort input keys = built_at (Sort input keys) (Plan-F.Sort input keys) (rolls-Sort input keys)

pub built-Merge : (input : Plan) (keys : List SortKey) → is_built (Merge input keys) ≡ false
built-Merge input keys = built_at (Merge input keys) (Plan-F.Merge input keys) (rolls-Merge input keys)

pub built-Coalesce : (input : Plan) → is_built (Coalesce input) ≡ is_built input
built-Coalesce input = built_at (Coalesce input) (Plan-F.Coalesce input) (rolls-Coalesce input) ∙ and_true (is_built input)

pub built-Repartition : (input : Plan) (to : Partitioning) → is_built (Repartition input to) ≡ (is_in_turn to && is_built input)
built-Repartition input to = built_at (Repartition input to) (Plan-F.Repartition input to) (rolls-Repartition input to) ∙ ap (λ b. is_in_turn to && b) (and_true (is_built input))

pub built-UnionAll : (inputs : List Plan) → is_built (UnionAll inputs) ≡ all_true (map is_built inputs)
built-UnionAll inputs = built_at (UnionAll inputs) (Plan-F.UnionAll inputs) (rolls-UnionAll inputs) ∙ pairs inputs

pub built-Limit : (input : Plan) (skip : ℕ) (fetch : Option ℕ) → is_built (Limit input skip fetch) ≡ false
built-Limit input skip fetch = built_at (Limit input skip fetch) (Plan-F.Limit input skip fetch) (rolls-Limit input skip fetch)

pub ruleset built_by_node = (built-Scan, built-Filter, built-Project, built-PartialGroup, built-FinalGroup, built-HashJoin, built-Sort, built-Merge, built-Coalesce, built-Repartition, built-UnionAll, built-Limit)

pub ruleset unbuilt_by_node = (built-PartialGroup, built-FinalGroup, built-HashJoin, built-Sort, built-Merge, built-Limit)

-- ---- stages and sources

stages_at : (p : Plan) (z : Plan-F Plan) → roll-Plan z ≡ p → stages_in p ≡ count_stages (map-Plan Plan ℕ stages_in z)
unfolding stages_in
stages_at p z r = ap stages_in (sym r) ∙ fold-roll-Plan ℕ count_stages z

pub stages-Scan : (table : ℕ) (ks : List Kind) (files partitions : ℕ) → stages_in (Scan table ks files partitions) ≡ 0
stages-Scan table ks files partitions = stages_at (Scan table ks files partitions) (Plan-F.Scan table ks files partitions) (rolls-Scan table ks files partitions)

pub stages-Filter : (input : Plan) (test : Expr) → stages_in (Filter input test) ≡ stages_in input
stages-Filter input test = stages_at (Filter input test) (Plan-F.Filter input test) (rolls-Filter input test)

pub stages-Project : (input : Plan) (items : List Expr) → stages_in (Project input items) ≡ stages_in input
stages-Project input items = stages_at (Project input items) (Plan-F.Project input items) (rolls-Project input items)

pub stages-PartialGroup : (input : Plan) (keys : List ℕ) (calls : List AggCall) → stages_in (PartialGroup input keys calls) ≡ stages_in input
stages-PartialGroup input keys calls = stages_at (PartialGroup input keys calls) (Plan-F.PartialGroup input keys calls) (rolls-PartialGroup input keys calls)

pub stages-FinalGroup : (input : Plan) (keys : List ℕ) (calls : List AggCall) → stages_in (FinalGroup input keys calls) ≡ stages_in input
stages-FinalGroup input keys calls = stages_at (FinalGroup input keys calls) (Plan-F.FinalGroup input keys calls) (rolls-FinalGroup input keys calls)

pub stages-HashJoin : (kind : JoinKind) (left right : Plan) (keys : List (ℕ × ℕ)) (rest : Option Expr) → stages_in (HashJoin kind left right keys rest) ≡ stages_in left + stages_in right
stages-HashJoin kind left right keys rest = stages_at (HashJoin kind left right keys rest) (Plan-F.HashJoin kind left right keys rest) (rolls-HashJoin kind left right keys rest)

pub stages-Sort : (input : Plan) (keys : List SortKey) → stages_in (Sort input keys) ≡ stages_in input
stages-Sort input keys = stages_at (Sort input keys) (Plan-F.Sort input keys) (rolls-Sort input keys)

pub stages-Merge : (input : Plan) (keys : List SortKey) → stages_in (Merge input keys) ≡ stages_in input + 1
stages-Merge input keys = stages_at (Merge input keys) (Plan-F.Merge input keys) (rolls-Merge input keys)

pub stages-Coalesce : (input : Plan) → stages_in (Coalesce input) ≡ stages_in input + 1
stages-Coalesce input = stages_at (Coalesce input) (Plan-F.Coalesce input) (rolls-Coalesce input)

pub stages-Repartition : (input : Plan) (to : Partitioning) → stages_in (Repartition input to) ≡ stages_in input + 1
stages-Repartition input to = stages_at (Repartition input to) (Plan-F.Repartition input to) (rolls-Repartition input to)

pub stages-UnionAll : (inputs : List Plan) → stages_in (UnionAll inputs) ≡ sum_all (map stages_in inputs)
stages-UnionAll inputs = stages_at (UnionAll inputs) (Plan-F.UnionAll inputs) (rolls-UnionAll inputs)

pub stages-Limit : (input : Plan) (skip : ℕ) (fetch : Option ℕ) → stages_in (Limit input skip fetch) ≡ stages_in input
stages-Limit input skip fetch = stages_at (Limit input skip fetch) (Plan-F.Limit input skip fetch) (rolls-Limit input skip fetch)

sources_at : (p : Plan) (z : Plan-F Plan) → roll-Plan z ≡ p → sources_in p ≡ count_sources (map-Plan Plan ℕ sources_in z)
unfolding sources_in
sources_at p z r = ap sources_in (sym r) ∙ fold-roll-Plan ℕ count_sources z

pub sources-Scan : (table : ℕ) (ks : List Kind) (files partitions : ℕ) → sources_in (Scan table ks files partitions) ≡ files
sources-Scan table ks files partitions = sources_at (Scan table ks files partitions) (Plan-F.Scan table ks files partitions) (rolls-Scan table ks files partitions)

pub sources-Filter : (input : Plan) (test : Expr) → sources_in (Filter input test) ≡ sources_in input
sources-Filter input test = sources_at (Filter input test) (Plan-F.Filter input test) (rolls-Filter input test)

pub sources-Project : (input : Plan) (items : List Expr) → sources_in (Project input items) ≡ sources_in input
sources-Project input items = sources_at (Project input items) (Plan-F.Project input items) (rolls-Project input items)

pub sources-PartialGroup : (input : Plan) (keys : List ℕ) (calls : List AggCall) → sources_in (PartialGroup input keys calls) ≡ sources_in input
sources-PartialGroup input keys calls = sources_at (PartialGroup input keys calls) (Plan-F.PartialGroup input keys calls) (rolls-PartialGroup input keys calls)

pub sources-FinalGroup : (input : Plan) (keys : List ℕ) (calls : List AggCall) → sources_in (FinalGroup input keys calls) ≡ sources_in input
sources-FinalGroup input keys calls = sources_at (FinalGroup input keys calls) (Plan-F.FinalGroup input keys calls) (rolls-FinalGroup input keys calls)

pub sources-HashJoin : (kind : JoinKind) (left right : Plan) (keys : List (ℕ × ℕ)) (rest : Option Expr) → sources_in (HashJoin kind left right keys rest) ≡ sources_in left + sources_in right
sources-HashJoin kind left right keys rest = sources_at (HashJoin kind left right keys rest) (Plan-F.HashJoin kind left right keys rest) (rolls-HashJoin kind left right keys rest)

pub sources-Sort : (input : Plan) (keys : List SortKey) → sources_in (Sort input keys) ≡ sources_in input
sources-Sort input keys = sources_at (Sort input keys) (Plan-F.Sort input keys) (rolls-Sort input keys)

pub sources-Merge : (input : Plan) (keys : List SortKey) → sources_in (Merge input keys) ≡ sources_in input
sources-Merge input keys = sources_at (Merge input keys) (Plan-F.Merge input keys) (rolls-Merge input keys)

pub sources-Coalesce : (input : Plan) → sources_in (Coalesce input) ≡ sources_in input
sources-Coalesce input = sources_at (Coalesce input) (Plan-F.Coalesce input) (rolls-Coalesce input)

pub sources-Repartition : (input : Plan) (to : Partitioning) → sources_in (Repartition input to) ≡ sources_in input
sources-Repartition input to = sources_at (Repartition input to) (Plan-F.Repartition input to) (rolls-Repartition input to)

pub sources-UnionAll : (inputs : List Plan) → sources_in (UnionAll inputs) ≡ sum_all (map sources_in inputs)
sources-UnionAll inputs = sources_at (UnionAll inputs) (Plan-F.UnionAll inputs) (rolls-UnionAll inputs)

pub sources-Limit : (input : Plan) (skip : ℕ) (fetch : Option ℕ) → sources_in (Limit input skip fetch) ≡ sources_in input
sources-Limit input skip fetch = sources_at (Limit input skip fetch) (Plan-F.Limit input skip fetch) (rolls-Limit input skip fetch)

pub ruleset counted_by_node = (stages-Scan, stages-Filter, stages-Project, stages-PartialGroup, stages-FinalGroup, stages-HashJoin, stages-Sort, stages-Merge, stages-Coalesce, stages-Repartition, stages-UnionAll, stages-Limit, sources-Scan, sources-Filter, sources-Project, sources-PartialGroup, sources-FinalGroup, sources-HashJoin, sources-Sort, sources-Merge, sources-Coalesce, sources-Repartition, sources-UnionAll, sources-Limit)

-- ---- partitions

pub ruleset wide_by_node = (counts-Scan, counts-Filter, counts-Project, counts-PartialGroup, counts-FinalGroup, counts-HashJoin, counts-Sort, counts-Merge, counts-Coalesce, counts-Repartition, counts-UnionAll, counts-Limit)

-- ---- inputs with kinds

kinded_at : (p : Plan) (z : Plan-F Plan) → roll-Plan z ≡ p
    → everywhere inputs_have_kinds p ≡ node_holds inputs_have_kinds (map-Plan Plan (Plan × Bool) (λ q. (q, everywhere inputs_have_kinds q)) z)
unfolding everywhere
kinded_at p z r = ap (everywhere inputs_have_kinds) (sym r) ∙ para-roll-Plan Bool (node_holds inputs_have_kinds) z

one : (p : Plan) → (is_some (kinds p) && true) && (everywhere inputs_have_kinds p && true) ≡ (is_some (kinds p) && everywhere inputs_have_kinds p)
one p = ap (λ b. b && (everywhere inputs_have_kinds p && true)) (and_true (is_some (kinds p))) ∙ ap (λ b. is_some (kinds p) && b) (and_true (everywhere inputs_have_kinds p))

pub kinded-Filter : (input : Plan) (test : Expr) → everywhere inputs_have_kinds (Filter input test) ≡ (is_some (kinds input) && everywhere inputs_have_kinds input)
kinded-Filter input test = kinded_at (Filter input test) (Plan-F.Filter input test) (rolls-Filter input test) ∙ one input

pub kinded-Project : (input : Plan) (items : List Expr) → everywhere inputs_have_kinds (Project input items) ≡ (is_some (kinds input) && everywhere inputs_have_kinds input)
kinded-Project input items = kinded_at (Project input items) (Plan-F.Project input items) (rolls-Project input items) ∙ one input

pub kinded-Coalesce : (input : Plan) → everywhere inputs_have_kinds (Coalesce input) ≡ (is_some (kinds input) && everywhere inputs_have_kinds input)
kinded-Coalesce input = kinded_at (Coalesce input) (Plan-F.Coalesce input) (rolls-Coalesce input) ∙ one input

pub kinded-Repartition : (input : Plan) (to : Partitioning) → everywhere inputs_have_kinds (Repartition input to) ≡ (is_some (kinds input) && everywhere inputs_have_kinds input)
kinded-Repartition input to = kinded_at (Repartition input to) (Plan-F.Repartition input to) (rolls-Repartition input to) ∙ one input

heads : (ps : List Plan) → list_all (λ p. is_some (kinds p)) (map (λ (p : Plan × Bool). p.0) (map (λ (q : Plan). (q, everywhere inputs_have_kinds q)) ps)) ≡ list_all (λ p. is_some (kinds p)) ps
heads [] = refl
heads (p ∷ ps) = ap (λ b. is_some (kinds p) && b) (heads ps)

tails : (ps : List Plan) → all_true (map (λ (p : Plan × Bool). p.1) (map (λ (q : Plan). (q, everywhere inputs_have_kinds q)) ps)) ≡ all_true (map (everywhere inputs_have_kinds) ps)
tails [] = refl
tails (p ∷ ps) = ap (λ b. everywhere inputs_have_kinds p && b) (tails ps)

pub kinded-UnionAll : (inputs : List Plan) → everywhere inputs_have_kinds (UnionAll inputs) ≡ (list_all (λ p. is_some (kinds p)) inputs && all_true (map (everywhere inputs_have_kinds) inputs))
kinded-UnionAll inputs =
    kinded_at (UnionAll inputs) (Plan-F.UnionAll inputs) (rolls-UnionAll inputs)
    ∙ ap (λ b. b && all_true (map (λ (p : Plan × Bool). p.1) (map (λ (q : Plan). (q, everywhere inputs_have_kinds q)) inputs))) (heads inputs)
    ∙ ap (λ b. list_all (λ p. is_some (kinds p)) inputs && b) (tails inputs)
