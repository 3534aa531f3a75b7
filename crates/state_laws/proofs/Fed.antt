-- Where a plan's exchanges are fed, so are those below each node.
use Rattle.std.proofs.Common.{ℕ, ◌+◌, List, [], ◌∷◌, map}
use Rattle.physical_plan.specs.declared.plan.Plan.{Plan}
use Rattle.physical_plan.specs.declared.plan.Plan.TheOpen.{Plan-F}
use Rattle.physical_plan.specs.declared.plan.Plan.TheViews.{roll-Plan}
use Rattle.physical_plan.specs.declared.plan.Plan.TheFolds.{map-Plan}
use Rattle.logical_plan.specs.Items.{Item}
use Rattle.plan_task_laws.specs.Trees.{Doing, stages_in, sources_in}
use Rattle.plan_task_laws.specs.Tops.{Topping, top_node, tops, tops_after}
use Rattle.plan_task_laws.proofs.Laws.{topped}
use Rattle.answer_laws.specs.Fed.{AllFed}
use Rattle.answer_laws.proofs.Recursion.{fed_apart}
use Rattle.state_laws.proofs.Inherited.{AllFrom, Below}

module _ (f : Doing) (full : ℕ → ℕ → List Item) where
  abbrev pub Fed : Plan → ℕ → ℕ → Type 0
  Fed p k i = AllFed f full (tops p k i)

  united : (ps : List Plan) (k i : ℕ) → AllFed f full (tops_after (map (λ (p : Plan). (p, tops p)) ps) k i) → AllFrom Fed ps k i
  united [] k i h = tt
  united (p ∷ ps) k i h =
      let k2 = k + stages_in p in
      let i2 = i + sources_in p in
      let a = fed_apart f full (tops p k i) (tops_after (map (λ (p : Plan). (p, tops p)) ps) k2 i2) h in
      (a.0, united ps k2 i2 a.1)

  level : (z : Plan-F Plan) (k i : ℕ) → (AllFed f full (top_node (map-Plan Plan (Plan × Topping) (λ p. (p, tops p)) z) k i) → Below Fed z k i) → Fed (roll-Plan z) k i → Below Fed z k i
  level z k i h = (let b = topped z in rw b h)

  pub down : (z : Plan-F Plan) (k i : ℕ) → Fed (roll-Plan z) k i → Below Fed z k i
  down (Plan-F.Scan table kinds files partitions) k i h = tt
  down (Plan-F.Filter p test) k i h = level (Plan-F.Filter p test) k i (λ x. x) h
  down (Plan-F.Project p items) k i h = level (Plan-F.Project p items) k i (λ x. x) h
  down (Plan-F.PartialGroup p keys calls) k i h = level (Plan-F.PartialGroup p keys calls) k i (λ x. x) h
  down (Plan-F.FinalGroup p keys calls) k i h = level (Plan-F.FinalGroup p keys calls) k i (λ x. x) h
  down (Plan-F.HashJoin kind p q keys rest) k i h = level (Plan-F.HashJoin kind p q keys rest) k i (λ x. fed_apart f full (tops p k i) (tops q (k + stages_in p) (i + sources_in p)) x) h
  down (Plan-F.Sort p keys) k i h = level (Plan-F.Sort p keys) k i (λ x. x) h
  down (Plan-F.Merge p keys) k i h = level (Plan-F.Merge p keys) k i (λ x. x.1) h
  down (Plan-F.Coalesce p) k i h = level (Plan-F.Coalesce p) k i (λ x. x.1) h
  down (Plan-F.Repartition p to) k i h = level (Plan-F.Repartition p to) k i (λ x. x.1) h
  down (Plan-F.UnionAll ps) k i h = level (Plan-F.UnionAll ps) k i (λ x. united ps k i x) h
  down (Plan-F.Limit p skip fetch) k i h = level (Plan-F.Limit p skip fetch) k i (λ x. x) h
