-- Meaning: the nodes of a plan, each with the stages and the sources from which its partitions are numbered.
use Rattle.std.specs.Prelude.{ℕ, ◌+◌, List, [], ◌∷◌, ◌++◌}
use Rattle.physical_plan.specs.declared.plan.Plan.{Plan}
use Rattle.physical_plan.specs.declared.plan.Plan.TheOpen.{Plan-F}
use Rattle.physical_plan.specs.declared.plan.Plan.TheFolds.{para-Plan}
use Rattle.plan_task_laws.specs.Trees.{stages_in, sources_in}

-- a node, as the plan of which it is the root; the number of the next stage that opens below it, and that of its
-- first source
pub record Site : Type 0 where
  pub plan : Plan
  pub stage : ℕ
  pub source : ℕ

abbrev pub site : Plan → ℕ → ℕ → Site
site p k s = record { plan = p; stage = k; source = s }

-- from the number of the next stage that opens, and that of the next source
abbrev pub Listing : Type 0
Listing = ℕ → ℕ → List Site

-- an input, and then the nodes below it
abbrev pub listed : Plan × Listing → Listing
listed p k s = site p.0 k s ∷ p.1 k s

abbrev pub listed_after : List (Plan × Listing) → Listing
listed_after [] k s = []
listed_after (p ∷ ps) k s = listed p k s ++ listed_after ps (k + stages_in p.0) (s + sources_in p.0)

abbrev pub list_node : Plan-F (Plan × Listing) → Listing
list_node (Plan-F.Scan table kinds files partitions) k s = []
list_node (Plan-F.Filter input test) k s = listed input k s
list_node (Plan-F.Project input items) k s = listed input k s
list_node (Plan-F.PartialGroup input keys calls) k s = listed input k s
list_node (Plan-F.FinalGroup input keys calls) k s = listed input k s
list_node (Plan-F.HashJoin kind left right keys rest) k s =
    listed left k s ++ listed right (k + stages_in left.0) (s + sources_in left.0)
list_node (Plan-F.Sort input keys) k s = listed input k s
list_node (Plan-F.Merge input keys) k s = listed input (k + 1) s
list_node (Plan-F.Coalesce input) k s = listed input (k + 1) s
list_node (Plan-F.Repartition input to) k s = listed input (k + 1) s
list_node (Plan-F.UnionAll inputs) k s = listed_after inputs k s
list_node (Plan-F.Limit input skip fetch) k s = listed input k s

-- the nodes below a plan's root, node before inputs, left to right
unfoldable pub sites_below : Plan → Listing
sites_below = para-Plan Listing list_node

-- all nodes of a plan that is run, whose own root is stage 0
abbrev pub sites_of : Plan → List Site
sites_of p = site p 1 0 ∷ sites_below p 1 0
