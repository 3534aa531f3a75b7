-- A test at every node, node by node.
use Rattle.std.proofs.Common.{◌≡◌, ℕ, List, [], ◌∷◌, Option, Bool, true, false, ◌&&◌, map, ap, sym, ◌∙◌, refl}
use Rattle.std.proofs.lemmas.Bool.{false≢true}
use Rattle.dfx_value.specs.declared.kind.Kind.{Kind}
use Rattle.dfx_value.specs.declared.rows.SortKey.{SortKey}
use Rattle.scalar_exprs.specs.declared.expr.Expr.{Expr}
use Rattle.dfx_value.specs.declared.op.JoinKind.{JoinKind}
use Rattle.dfx_value.specs.declared.op.AggCall.{AggCall}
use Rattle.plan_props.specs.declared.properties.Partitioning.{Partitioning}
use Rattle.physical_plan.specs.declared.plan.Plan.{Plan}
use Rattle.physical_plan.specs.declared.plan.Plan.TheOpen.{Plan-F}
use Rattle.physical_plan.specs.declared.plan.Plan.TheFolds.{map-Plan}
use Rattle.physical_plan.specs.declared.plan.Plan.TheVariants.{Scan, Filter, Project, PartialGroup, FinalGroup, HashJoin, Sort, Merge, Coalesce, Repartition, UnionAll, Limit}
use Rattle.physical_plan.specs.Rebuilt.{rebuilt}
use Rattle.physical_plan.specs.Everywhere.{Test, kids, node_holds, everywhere, all_true, bare_node, erased}
use Rattle.physical_plan.proofs.Folds.{folded, beside, mapped, unchanged, kids_mapped}

pub both_true : (a b : Bool) → a ≡ true → b ≡ true → a && b ≡ true
both_true true b e h = h
both_true false b e h = absurd (false≢true e)

pub and_parts : (a b : Bool) → a && b ≡ true → (a ≡ true) × (b ≡ true)
and_parts true b h = (refl, h)
and_parts false b h = absurd (false≢true h)

-- the test at a node, and everywhere in its inputs
pub everywhere_at : (test : Test) (z : Plan-F Plan) → everywhere test (rebuilt z) ≡ test z && all_true (map (everywhere test) (kids z))
unfolding everywhere
everywhere_at test z =
    beside Bool (node_holds test) z
    ∙ ap (λ (y : Plan-F Plan). test y && all_true (kids (map-Plan (Plan × Bool) Bool (λ p. p.1) (map-Plan Plan (Plan × Bool) with_test z)))) (mapped Plan (Plan × Bool) Plan (λ p. p.0) with_test z ∙ unchanged Plan z)
    ∙ ap (λ (bs : List Bool). test z && all_true bs) (ap kids (mapped Plan (Plan × Bool) Bool (λ p. p.1) with_test z) ∙ kids_mapped Plan Bool (everywhere test) z)
  where
    with_test : Plan → Plan × Bool
    with_test p = (p, everywhere test p)

pub holds_at : (test : Test) (z : Plan-F Plan) → test z ≡ true → all_true (map (everywhere test) (kids z)) ≡ true → everywhere test (rebuilt z) ≡ true
holds_at test z h i = everywhere_at test z ∙ both_true _ _ h i

pub parts_at : (test : Test) (z : Plan-F Plan) → everywhere test (rebuilt z) ≡ true → (test z ≡ true) × (all_true (map (everywhere test) (kids z)) ≡ true)
parts_at test z h = and_parts _ _ (sym (everywhere_at test z) ∙ h)

one_input : (test : Test) (z : Plan-F Plan) (p : Plan) → (test z ≡ true) × (everywhere test p && true ≡ true) → (test z ≡ true) × (everywhere test p ≡ true)
one_input test z p a = (a.0, (and_parts (everywhere test p) true a.1).0)

-- ---- node by node

pub holds-Scan : (test : Test) (table : ℕ) (kinds : List Kind) (files : ℕ) (partitions : ℕ) → test (Plan-F.Scan table kinds files partitions) ≡ true → everywhere test (Scan table kinds files partitions) ≡ true
holds-Scan test table kinds files partitions h = holds_at test (Plan-F.Scan table kinds files partitions) h refl

pub parts-Scan : (test : Test) (table : ℕ) (kinds : List Kind) (files : ℕ) (partitions : ℕ) → everywhere test (Scan table kinds files partitions) ≡ true → test (Plan-F.Scan table kinds files partitions) ≡ true
parts-Scan test table kinds files partitions h = (parts_at test (Plan-F.Scan table kinds files partitions) h).0

pub holds-Filter : (test : Test) (input : Plan) (tested : Expr) → test (Plan-F.Filter input tested) ≡ true → everywhere test input ≡ true → everywhere test (Filter input tested) ≡ true
holds-Filter test input tested h i = holds_at test (Plan-F.Filter input tested) h (both_true _ _ i refl)

pub parts-Filter : (test : Test) (input : Plan) (tested : Expr) → everywhere test (Filter input tested) ≡ true → (test (Plan-F.Filter input tested) ≡ true) × (everywhere test input ≡ true)
parts-Filter test input tested h = one_input test (Plan-F.Filter input tested) input (parts_at test (Plan-F.Filter input tested) h)

pub holds-Project : (test : Test) (input : Plan) (items : List Expr) → test (Plan-F.Project input items) ≡ true → everywhere test input ≡ true → everywhere test (Project input items) ≡ true
holds-Project test input items h i = holds_at test (Plan-F.Project input items) h (both_true _ _ i refl)

pub parts-Project : (test : Test) (input : Plan) (items : List Expr) → everywhere test (Project input items) ≡ true → (test (Plan-F.Project input items) ≡ true) × (everywhere test input ≡ true)
parts-Project test input items h = one_input test (Plan-F.Project input items) input (parts_at test (Plan-F.Project input items) h)

pub holds-PartialGroup : (test : Test) (input : Plan) (keys : List ℕ) (calls : List AggCall) → test (Plan-F.PartialGroup input keys calls) ≡ true → everywhere test input ≡ true → everywhere test (PartialGroup input keys calls) ≡ true
holds-PartialGroup test input keys calls h i = holds_at test (Plan-F.PartialGroup input keys calls) h (both_true _ _ i refl)

pub parts-PartialGroup : (test : Test) (input : Plan) (keys : List ℕ) (calls : List AggCall) → everywhere test (PartialGroup input keys calls) ≡ true → (test (Plan-F.PartialGroup input keys calls) ≡ true) × (everywhere test input ≡ true)
parts-PartialGroup test input keys calls h = one_input test (Plan-F.PartialGroup input keys calls) input (parts_at test (Plan-F.PartialGroup input keys calls) h)

pub holds-FinalGroup : (test : Test) (input : Plan) (keys : List ℕ) (calls : List AggCall) → test (Plan-F.FinalGroup input keys calls) ≡ true → everywhere test input ≡ true → everywhere test (FinalGroup input keys calls) ≡ true
holds-FinalGroup test input keys calls h i = holds_at test (Plan-F.FinalGroup input keys calls) h (both_true _ _ i refl)

pub parts-FinalGroup : (test : Test) (input : Plan) (keys : List ℕ) (calls : List AggCall) → everywhere test (FinalGroup input keys calls) ≡ true → (test (Plan-F.FinalGroup input keys calls) ≡ true) × (everywhere test input ≡ true)
parts-FinalGroup test input keys calls h = one_input test (Plan-F.FinalGroup input keys calls) input (parts_at test (Plan-F.FinalGroup input keys calls) h)

pub holds-HashJoin : (test : Test) (kind : JoinKind) (left : Plan) (right : Plan) (keys : List (ℕ × ℕ)) (rest : Option Expr) → test (Plan-F.HashJoin kind left right keys rest) ≡ true → everywhere test left ≡ true → everywhere test right ≡ true → everywhere test (HashJoin kind left right keys rest) ≡ true
holds-HashJoin test kind left right keys rest h i j = holds_at test (Plan-F.HashJoin kind left right keys rest) h (both_true _ _ i (both_true _ _ j refl))

pub parts-HashJoin : (test : Test) (kind : JoinKind) (left : Plan) (right : Plan) (keys : List (ℕ × ℕ)) (rest : Option Expr) → everywhere test (HashJoin kind left right keys rest) ≡ true → (test (Plan-F.HashJoin kind left right keys rest) ≡ true) × (everywhere test left ≡ true) × (everywhere test right ≡ true)
parts-HashJoin test kind left right keys rest h = let a = parts_at test (Plan-F.HashJoin kind left right keys rest) h in let b = and_parts (everywhere test left) (everywhere test right && true) a.1 in (a.0, b.0, (and_parts (everywhere test right) true b.1).0)

pub holds-Sort : (test : Test) (input : Plan) (keys : List SortKey) → test (Plan-F.Sort input keys) ≡ true → everywhere test input ≡ true → everywhere test (Sort input keys) ≡ true
holds-Sort test input keys h i = holds_at test (Plan-F.Sort input keys) h (both_true _ _ i refl)

pub parts-Sort : (test : Test) (input : Plan) (keys : List SortKey) → everywhere test (Sort input keys) ≡ true → (test (Plan-F.Sort input keys) ≡ true) × (everywhere test input ≡ true)
parts-Sort test input keys h = one_input test (Plan-F.Sort input keys) input (parts_at test (Plan-F.Sort input keys) h)

pub holds-Merge : (test : Test) (input : Plan) (keys : List SortKey) → test (Plan-F.Merge input keys) ≡ true → everywhere test input ≡ true → everywhere test (Merge input keys) ≡ true
holds-Merge test input keys h i = holds_at test (Plan-F.Merge input keys) h (both_true _ _ i refl)

pub parts-Merge : (test : Test) (input : Plan) (keys : List SortKey) → everywhere test (Merge input keys) ≡ true → (test (Plan-F.Merge input keys) ≡ true) × (everywhere test input ≡ true)
parts-Merge test input keys h = one_input test (Plan-F.Merge input keys) input (parts_at test (Plan-F.Merge input keys) h)

pub holds-Coalesce : (test : Test) (input : Plan) → test (Plan-F.Coalesce input) ≡ true → everywhere test input ≡ true → everywhere test (Coalesce input) ≡ true
holds-Coalesce test input h i = holds_at test (Plan-F.Coalesce input) h (both_true _ _ i refl)

pub parts-Coalesce : (test : Test) (input : Plan) → everywhere test (Coalesce input) ≡ true → (test (Plan-F.Coalesce input) ≡ true) × (everywhere test input ≡ true)
parts-Coalesce test input h = one_input test (Plan-F.Coalesce input) input (parts_at test (Plan-F.Coalesce input) h)

pub holds-Repartition : (test : Test) (input : Plan) (to : Partitioning) → test (Plan-F.Repartition input to) ≡ true → everywhere test input ≡ true → everywhere test (Repartition input to) ≡ true
holds-Repartition test input to h i = holds_at test (Plan-F.Repartition input to) h (both_true _ _ i refl)

pub parts-Repartition : (test : Test) (input : Plan) (to : Partitioning) → everywhere test (Repartition input to) ≡ true → (test (Plan-F.Repartition input to) ≡ true) × (everywhere test input ≡ true)
parts-Repartition test input to h = one_input test (Plan-F.Repartition input to) input (parts_at test (Plan-F.Repartition input to) h)

pub holds-UnionAll : (test : Test) (inputs : List Plan) → test (Plan-F.UnionAll inputs) ≡ true → all_true (map (everywhere test) inputs) ≡ true → everywhere test (UnionAll inputs) ≡ true
holds-UnionAll test inputs h i = holds_at test (Plan-F.UnionAll inputs) h i

pub parts-UnionAll : (test : Test) (inputs : List Plan) → everywhere test (UnionAll inputs) ≡ true → (test (Plan-F.UnionAll inputs) ≡ true) × (all_true (map (everywhere test) inputs) ≡ true)
parts-UnionAll test inputs h = parts_at test (Plan-F.UnionAll inputs) h

pub holds-Limit : (test : Test) (input : Plan) (skip : ℕ) (fetch : Option ℕ) → test (Plan-F.Limit input skip fetch) ≡ true → everywhere test input ≡ true → everywhere test (Limit input skip fetch) ≡ true
holds-Limit test input skip fetch h i = holds_at test (Plan-F.Limit input skip fetch) h (both_true _ _ i refl)

pub parts-Limit : (test : Test) (input : Plan) (skip : ℕ) (fetch : Option ℕ) → everywhere test (Limit input skip fetch) ≡ true → (test (Plan-F.Limit input skip fetch) ≡ true) × (everywhere test input ≡ true)
parts-Limit test input skip fetch h = one_input test (Plan-F.Limit input skip fetch) input (parts_at test (Plan-F.Limit input skip fetch) h)

-- ---- without exchanges and sorts

pub erased_at : (z : Plan-F Plan) → erased (rebuilt z) ≡ bare_node (map-Plan Plan Plan erased z)
unfolding erased
erased_at z = folded Plan bare_node z

pub erased-Scan : (table : ℕ) (kinds : List Kind) (files : ℕ) (partitions : ℕ) → erased (Scan table kinds files partitions) ≡ bare_node (Plan-F.Scan table kinds files partitions)
erased-Scan table kinds files partitions = erased_at (Plan-F.Scan table kinds files partitions)

pub erased-Filter : (input : Plan) (test : Expr) → erased (Filter input test) ≡ bare_node (Plan-F.Filter (erased input) test)
erased-Filter input test = erased_at (Plan-F.Filter input test)

pub erased-Project : (input : Plan) (items : List Expr) → erased (Project input items) ≡ bare_node (Plan-F.Project (erased input) items)
erased-Project input items = erased_at (Plan-F.Project input items)

pub erased-PartialGroup : (input : Plan) (keys : List ℕ) (calls : List AggCall) → erased (PartialGroup input keys calls) ≡ bare_node (Plan-F.PartialGroup (erased input) keys calls)
erased-PartialGroup input keys calls = erased_at (Plan-F.PartialGroup input keys calls)

pub erased-FinalGroup : (input : Plan) (keys : List ℕ) (calls : List AggCall) → erased (FinalGroup input keys calls) ≡ bare_node (Plan-F.FinalGroup (erased input) keys calls)
erased-FinalGroup input keys calls = erased_at (Plan-F.FinalGroup input keys calls)

pub erased-HashJoin : (kind : JoinKind) (left : Plan) (right : Plan) (keys : List (ℕ × ℕ)) (rest : Option Expr) → erased (HashJoin kind left right keys rest) ≡ bare_node (Plan-F.HashJoin kind (erased left) (erased right) keys rest)
erased-HashJoin kind left right keys rest = erased_at (Plan-F.HashJoin kind left right keys rest)

pub erased-Sort : (input : Plan) (keys : List SortKey) → erased (Sort input keys) ≡ bare_node (Plan-F.Sort (erased input) keys)
erased-Sort input keys = erased_at (Plan-F.Sort input keys)

pub erased-Merge : (input : Plan) (keys : List SortKey) → erased (Merge input keys) ≡ bare_node (Plan-F.Merge (erased input) keys)
erased-Merge input keys = erased_at (Plan-F.Merge input keys)

pub erased-Coalesce : (input : Plan) → erased (Coalesce input) ≡ bare_node (Plan-F.Coalesce (erased input))
erased-Coalesce input = erased_at (Plan-F.Coalesce input)

pub erased-Repartition : (input : Plan) (to : Partitioning) → erased (Repartition input to) ≡ bare_node (Plan-F.Repartition (erased input) to)
erased-Repartition input to = erased_at (Plan-F.Repartition input to)

pub erased-UnionAll : (inputs : List Plan) → erased (UnionAll inputs) ≡ bare_node (Plan-F.UnionAll (map (erased) inputs))
erased-UnionAll inputs = erased_at (Plan-F.UnionAll inputs)

pub erased-Limit : (input : Plan) (skip : ℕ) (fetch : Option ℕ) → erased (Limit input skip fetch) ≡ bare_node (Plan-F.Limit (erased input) skip fetch)
erased-Limit input skip fetch = erased_at (Plan-F.Limit input skip fetch)
