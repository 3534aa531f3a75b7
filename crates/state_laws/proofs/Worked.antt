-- The nodes of a worked plan, with the numbers from which their stages and sources are counted; and the trees of one of them.
use Rattle.std.proofs.Common.{ℕ, ◌≡◌, refl, ap, ◌∙◌, [], ◌∷◌, ◌++◌, ◌+◌, false, None}
use Rattle.dfx_value.specs.declared.op.JoinKind.TheVariants.{Inner}
use Rattle.plan_props.specs.declared.properties.Partitioning.TheVariants as parting
use Rattle.physical_plan.specs.declared.plan.Plan.{Plan}
use Rattle.physical_plan.specs.declared.plan.Plan.TheOpen.{Plan-F}
use Rattle.physical_plan.specs.declared.plan.Plan.TheViews.{roll-Plan}
use Rattle.tree_laws.specs.Trees.{Inlet}
use Rattle.plan_task_laws.proofs.Laws.{stages_rolled, sources_rolled}
use Rattle.plan_task_laws.specs.Trees.{stages_in, sources_in}
use Rattle.state_laws.specs.Sites.{site, sites_below}
use Rattle.state_laws.specs.Good.{so_far}
use Rattle.state_laws.proofs.Inherited.{listed_rolled}

abbrev one : Plan
one = roll-Plan (Plan-F.Scan 0 [] 3 1)

abbrev two : Plan
two = roll-Plan (Plan-F.Scan 1 [] 5 4)

-- the right side of a join counts on behind the stages and the sources of its left: an exchange, and three files
abbrev spread : Plan
spread = roll-Plan (Plan-F.Repartition one (parting.RoundRobin 4))

abbrev joined : Plan
joined = roll-Plan (Plan-F.HashJoin Inner spread two [] None)

below_spread : (k s : ℕ) → sites_below spread k s ≡ site one (k + 1) s ∷ []
below_spread k s = ap (λ l. l k s) (listed_rolled (Plan-F.Repartition one (parting.RoundRobin 4))) ∙ ap (λ l. site one (k + 1) s ∷ l (k + 1) s) (listed_rolled (Plan-F.Scan 0 [] 3 1))

stages_of_spread : stages_in spread ≡ 1
stages_of_spread = stages_rolled (Plan-F.Repartition one (parting.RoundRobin 4)) ∙ ap (λ n. n + 1) (stages_rolled (Plan-F.Scan 0 [] 3 1))

sources_of_spread : sources_in spread ≡ 3
sources_of_spread = sources_rolled (Plan-F.Repartition one (parting.RoundRobin 4)) ∙ sources_rolled (Plan-F.Scan 0 [] 3 1)

pub worked : sites_below joined 1 0 ≡ site spread 1 0 ∷ site one 2 0 ∷ site two 2 3 ∷ []
worked = ap (λ l. l 1 0) (listed_rolled (Plan-F.HashJoin Inner spread two [] None))
    ∙ ap (λ xs. site spread 1 0 ∷ (xs ++ (site two (1 + stages_in spread) (0 + sources_in spread) ∷ sites_below two (1 + stages_in spread) (0 + sources_in spread)))) (below_spread 1 0)
    ∙ ap (λ xs. site spread 1 0 ∷ site one 2 0 ∷ site two (1 + stages_in spread) (0 + sources_in spread) ∷ xs (1 + stages_in spread) (0 + sources_in spread)) (listed_rolled (Plan-F.Scan 1 [] 5 4))
    ∙ ap (λ n. site spread 1 0 ∷ site one 2 0 ∷ site two (1 + n) (0 + sources_in spread) ∷ []) stages_of_spread
    ∙ ap (λ n. site spread 1 0 ∷ site one 2 0 ∷ site two 2 (0 + n) ∷ []) sources_of_spread

-- of a channel the rows that were taken count, also those that the tree hasn't given on
pub taken : so_far (Inlet 1 0 ([] ∷ []) ([] ∷ []) false) ≡ [] ∷ [] ∷ []
taken = refl
