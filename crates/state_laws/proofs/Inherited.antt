-- What holds of a plan where it stands, and passes from each node to its inputs, holds of every node.
use Rattle.std.specs.List.{AllByRecursion}
use Rattle.std.proofs.Common.{ℕ, ◌+◌, ◌≡◌, subst, List, [], ◌∷◌, ◌++◌, map}
use Rattle.physical_plan.specs.declared.plan.Plan.{Plan}
use Rattle.physical_plan.specs.declared.plan.Plan.TheOpen.{Plan-F}
use Rattle.physical_plan.specs.declared.plan.Plan.TheViews.{roll-Plan}
use Rattle.physical_plan.specs.declared.plan.Plan.TheFolds.{para-roll-Plan, map-Plan, ind-Plan}
use Rattle.plan_task_laws.specs.Trees.{stages_in, sources_in}
use Rattle.state_laws.specs.Sites.{Site, site, Listing, listed_after, list_node, sites_below}

-- of inputs, one after the other
abbrev pub AllFrom : (Plan → ℕ → ℕ → Type 0) → List Plan → ℕ → ℕ → Type 0
AllFrom P [] k s = Unit {0}
AllFrom P (p ∷ ps) k s = P p k s × AllFrom P ps (k + stages_in p) (s + sources_in p)

-- of the inputs of a node that stands there
abbrev pub Below : (Plan → ℕ → ℕ → Type 0) → Plan-F Plan → ℕ → ℕ → Type 0
Below P (Plan-F.Scan table kinds files partitions) k s = Unit {0}
Below P (Plan-F.Filter p test) k s = P p k s
Below P (Plan-F.Project p items) k s = P p k s
Below P (Plan-F.PartialGroup p keys calls) k s = P p k s
Below P (Plan-F.FinalGroup p keys calls) k s = P p k s
Below P (Plan-F.HashJoin kind p q keys rest) k s = P p k s × P q (k + stages_in p) (s + sources_in p)
Below P (Plan-F.Sort p keys) k s = P p k s
Below P (Plan-F.Merge p keys) k s = P p (k + 1) s
Below P (Plan-F.Coalesce p) k s = P p (k + 1) s
Below P (Plan-F.Repartition p to) k s = P p (k + 1) s
Below P (Plan-F.UnionAll ps) k s = AllFrom P ps k s
Below P (Plan-F.Limit p skip fetch) k s = P p k s

pub listed_rolled : (z : Plan-F Plan) → sites_below (roll-Plan z) ≡ list_node (map-Plan Plan (Plan × Listing) (λ p. (p, sites_below p)) z)
unfolding sites_below
listed_rolled z = para-roll-Plan Listing list_node z

all-append : {A : Type 0} (P : A → Type 0) (xs ys : List A) → AllByRecursion P xs → AllByRecursion P ys → AllByRecursion P (xs ++ ys)
all-append P [] ys h i = i
all-append P (x ∷ xs) ys h i = (h.0, all-append P xs ys h.1 i)

module _ (P : Plan → ℕ → ℕ → Type 0) (down : (z : Plan-F Plan) (k s : ℕ) → P (roll-Plan z) k s → Below P z k s) where
  abbrev At : Site → Type 0
  At x = P x.plan x.stage x.source

  abbrev EachIn : Plan → Listing → Type 0
  EachIn p l = (k s : ℕ) → P p k s → AllByRecursion At (l k s)

  abbrev pub Each : Plan → Type 0
  Each p = EachIn p (sites_below p)

  abbrev Known : Type 0
  Known = (p : Plan) × Each p

  abbrev plans : List Known → List Plan
  plans ps = map (λ (p : Known). p.0) ps

  level : (z : Plan-F Plan) → EachIn (roll-Plan z) (list_node (map-Plan Plan (Plan × Listing) (λ p. (p, sites_below p)) z)) → Each (roll-Plan z)
  level z h = (let a = listed_rolled z in rw a h)

  united : (ps : List Known) (k s : ℕ) → AllFrom P (plans ps) k s → AllByRecursion At (listed_after (map (λ (p : Plan). (p, sites_below p)) (plans ps)) k s)
  united [] k s h = tt
  united (p ∷ ps) k s h =
      let k2 = k + stages_in p.0 in
      let s2 = s + sources_in p.0 in
      all-append At (site p.0 k s ∷ sites_below p.0 k s) (listed_after (map (λ (p : Plan). (p, sites_below p)) (plans ps)) k2 s2) (h.0, p.1 k s h.0) (united ps k2 s2 h.1)

  one : (p : Known) (k s : ℕ) → P p.0 k s → AllByRecursion At (site p.0 k s ∷ sites_below p.0 k s)
  one p k s h = (h, p.1 k s h)

  step : (y : Plan-F Known) → Each (roll-Plan (map-Plan Known Plan (λ k. k.0) y))
  step (Plan-F.Scan table kinds files partitions) = level (Plan-F.Scan table kinds files partitions) (λ k s h. tt)
  step (Plan-F.Filter p test) = level (Plan-F.Filter p.0 test) (λ k s h. one p k s (down (Plan-F.Filter p.0 test) k s h))
  step (Plan-F.Project p items) = level (Plan-F.Project p.0 items) (λ k s h. one p k s (down (Plan-F.Project p.0 items) k s h))
  step (Plan-F.PartialGroup p keys calls) = level (Plan-F.PartialGroup p.0 keys calls) (λ k s h. one p k s (down (Plan-F.PartialGroup p.0 keys calls) k s h))
  step (Plan-F.FinalGroup p keys calls) = level (Plan-F.FinalGroup p.0 keys calls) (λ k s h. one p k s (down (Plan-F.FinalGroup p.0 keys calls) k s h))
  step (Plan-F.HashJoin kind p q keys rest) = level (Plan-F.HashJoin kind p.0 q.0 keys rest) (λ k s h. (
      let k2 = k + stages_in p.0 in
      let s2 = s + sources_in p.0 in
      let d = down (Plan-F.HashJoin kind p.0 q.0 keys rest) k s h in
      all-append At (site p.0 k s ∷ sites_below p.0 k s) (site q.0 k2 s2 ∷ sites_below q.0 k2 s2) (one p k s d.0) (one q k2 s2 d.1)))
  step (Plan-F.Sort p keys) = level (Plan-F.Sort p.0 keys) (λ k s h. one p k s (down (Plan-F.Sort p.0 keys) k s h))
  step (Plan-F.Merge p keys) = level (Plan-F.Merge p.0 keys) (λ k s h. one p (k + 1) s (down (Plan-F.Merge p.0 keys) k s h))
  step (Plan-F.Coalesce p) = level (Plan-F.Coalesce p.0) (λ k s h. one p (k + 1) s (down (Plan-F.Coalesce p.0) k s h))
  step (Plan-F.Repartition p to) = level (Plan-F.Repartition p.0 to) (λ k s h. one p (k + 1) s (down (Plan-F.Repartition p.0 to) k s h))
  step (Plan-F.UnionAll ps) = level (Plan-F.UnionAll (plans ps)) (λ k s h. united ps k s (down (Plan-F.UnionAll (plans ps)) k s h))
  step (Plan-F.Limit p skip fetch) = level (Plan-F.Limit p.0 skip fetch) (λ k s h. one p k s (down (Plan-F.Limit p.0 skip fetch) k s h))

  -- of each node below
  pub each : (p : Plan) → Each p
  each = ind-Plan Each (λ x y is. subst (λ z. Each (roll-Plan z)) is (step y))
