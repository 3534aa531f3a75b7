-- Meaning: what each node of a plan keeps, of what its inputs' partitions would give and of what its own would.
use Rattle.std.specs.Prelude.{ℕ, ◌<◌, ◌≡◌, Option, List, [], ◌∷◌, length, map, slice_index_or}
use Rattle.std.specs.List.{AllPass}
use Rattle.plan_props.specs.declared.properties.Partitioning.{Partitioning}
use Rattle.plan_props.specs.Satisfies.{partition_count}
use Rattle.dfx_value.specs.declared.kind.Kind.{Kind}
use Rattle.dfx_value.specs.declared.op.AggCall.{AggCall}
use Rattle.dfx_value.specs.declared.op.JoinKind.{JoinKind}
use Rattle.dfx_value.specs.declared.rows.SortKey.{SortKey}
use Rattle.scalar_exprs.specs.declared.expr.Expr.{Expr}
use Rattle.physical_plan.specs.declared.plan.Plan.{Plan}
use Rattle.physical_plan.specs.declared.plan.Plan.TheOpen.{Plan-F}
use Rattle.physical_plan.specs.declared.plan.Plan.TheViews.{roll-Plan}
use Rattle.physical_plan.specs.Numbers.{numbers}
use Rattle.logical_plan.specs.Items.{Item, concat}
use Rattle.content_laws.specs.Bags.{SameBag}
use Rattle.content_laws.specs.Subsequences.{IsSubsequence}
use Rattle.content_laws.specs.SenderKinds.{is_at}
use Rattle.tree_laws.specs.Trees.{in_files}
use Rattle.plan_task_laws.specs.Trees.{Doing, dealt_files}
use Rattle.plan_task_laws.specs.Tops.{ByHash, way_to}
use Rattle.answer_laws.specs.Gives.{Yields, AllYield, AllJoin}

-- something holds of each plan and the lists of its partitions
abbrev pub AllHold : (Plan → List (List Item) → Type 0) → List Plan → List (List (List Item)) → Type 0
AllHold holds [] [] = Unit {0}
AllHold holds [] (x ∷ xs) = ⊥
AllHold holds (p ∷ ps) [] = ⊥
AllHold holds (p ∷ ps) (x ∷ xs) = holds p x × AllHold holds ps xs

-- by a hash, each target has rows of its number only
abbrev pub AreSplit : Doing → Partitioning → List (List Item) → Type 0
AreSplit f to ys =
    (columns : List ℕ) (n : ℕ) → way_to to ≡ ByHash columns n → (c : ℕ) → c < n
    → AllPass (is_at (f.channel columns n) c) (slice_index_or ys c [])

-- what comes of one input has some of its items, in their order
abbrev pub KeepsOrder : List (List Item) → List (List Item) → Type 0
KeepsOrder xs ys = length xs ≡ 1 → (c : ℕ) → c < length ys → IsSubsequence (slice_index_or ys c []) (concat xs)

-- what holds of a node's inputs and what their partitions would give holds of the node and what its partitions would
-- give
pub record IsKept (f : Doing) (holds : Plan → List (List Item) → Type 0) : Type 0 where
  pub scan : (table : ℕ) (kinds : List Kind) (files partitions source : ℕ)
      → holds (roll-Plan (Plan-F.Scan table kinds files partitions))
      (map (λ (i : ℕ). in_files (dealt_files (f.items table) source files partitions i)) (numbers partitions))
  pub filter : (q : Plan) (test : Expr) (xs ys : List (List Item)) → holds q xs
      → AllYield (f.operator (Plan-F.Filter q test) 1) xs ys → holds (roll-Plan (Plan-F.Filter q test)) ys
  pub project : (q : Plan) (items : List Expr) (xs ys : List (List Item)) → holds q xs
      → AllYield (f.operator (Plan-F.Project q items) 1) xs ys → holds (roll-Plan (Plan-F.Project q items)) ys
  pub partial : (q : Plan) (keys : List ℕ) (calls : List AggCall) (xs ys : List (List Item)) → holds q xs
      → AllYield (f.operator (Plan-F.PartialGroup q keys calls) 1) xs ys
      → holds (roll-Plan (Plan-F.PartialGroup q keys calls)) ys
  pub final : (q : Plan) (keys : List ℕ) (calls : List AggCall) (xs ys : List (List Item)) → holds q xs
      → AllYield (f.operator (Plan-F.FinalGroup q keys calls) 1) xs ys
      → holds (roll-Plan (Plan-F.FinalGroup q keys calls)) ys
  pub join : (kind : JoinKind) (p q : Plan) (keys : List (ℕ × ℕ)) (rest : Option Expr) (xs ys zs : List (List Item))
      → holds p xs → holds q ys
      → AllJoin (f.operator (Plan-F.HashJoin kind p q keys rest) 2) xs ys zs
      → holds (roll-Plan (Plan-F.HashJoin kind p q keys rest)) zs
  pub sort : (q : Plan) (keys : List SortKey) (xs ys : List (List Item)) → holds q xs
      → AllYield (f.operator (Plan-F.Sort q keys) 1) xs ys → holds (roll-Plan (Plan-F.Sort q keys)) ys
  pub limit : (q : Plan) (skip : ℕ) (fetch : Option ℕ) (xs ys : List (List Item)) → holds q xs
      → AllYield (f.operator (Plan-F.Limit q skip fetch) 1) xs ys → holds (roll-Plan (Plan-F.Limit q skip fetch)) ys
  pub merge : (q : Plan) (keys : List SortKey) (xs : List (List Item)) (y : List Item) → holds q xs
      → Yields (f.operator (Plan-F.Merge q keys) (length xs)) xs y → holds (roll-Plan (Plan-F.Merge q keys)) (y ∷ [])
  pub coalesce : (q : Plan) (xs : List (List Item)) (y : List Item) → holds q xs
      → SameBag y (concat xs) → KeepsOrder xs (y ∷ []) → holds (roll-Plan (Plan-F.Coalesce q)) (y ∷ [])
  pub repartition : (q : Plan) (to : Partitioning) (xs ys : List (List Item)) → holds q xs
      → length ys ≡ partition_count to → SameBag (concat ys) (concat xs) → AreSplit f to ys → KeepsOrder xs ys
      → holds (roll-Plan (Plan-F.Repartition q to)) ys
  pub union : (ps : List Plan) (xs : List (List (List Item))) → AllHold holds ps xs
      → holds (roll-Plan (Plan-F.UnionAll ps)) (concat xs)
