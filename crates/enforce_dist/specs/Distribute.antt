-- Meaning: the exchanges that a plan's needs ask for.
use Rattle.std.specs.Prelude.{ℕ, ◌==◌, Bool, true, false, ◌&&◌, nat_lt, List, [], ◌∷◌, if◌then◌else◌}
use Rattle.dfx_value.specs.declared.rows.SortKey.{SortKey}
use Rattle.plan_props.specs.declared.properties.Partitioning.TheVariants as parting
use Rattle.plan_props.specs.declared.properties.Distribution.{Distribution}
use Rattle.plan_props.specs.declared.properties.Distribution.TheVariants as need
use Rattle.plan_props.specs.Satisfies.{satisfies_distribution}
use Rattle.physical_plan.specs.declared.plan.Plan.{Plan}
use Rattle.physical_plan.specs.declared.plan.Plan.TheVariants as plan
use Rattle.physical_plan.specs.declared.plan.Plan.TheOpen.{Plan-F}
use Rattle.physical_plan.specs.declared.plan.Plan.TheFolds.{fold-Plan, map-Plan}
use Rattle.physical_plan.specs.Rebuilt.{rebuilt}
use Rattle.physical_plan.specs.Properties.{props, partitions, left_keys, right_keys}

-- a plan, from whether a PartialGroup, HashJoin or Sort stands above it
abbrev pub Below : Type 0
Below = Bool → Plan

abbrev pub gathered_by : List SortKey → Plan → Plan
gathered_by [] p = plan.Coalesce p
gathered_by (k ∷ ks) p = plan.Merge p (k ∷ ks)

-- on one partition
abbrev pub gathered : Plan → Plan
gathered p = if partitions p == 1 then p else gathered_by (props p).ordering p

-- hashed by the keys
abbrev pub hashed : Distribution → List ℕ → ℕ → Plan → Plan
hashed d keys n p = if satisfies_distribution (props p) d then p else plan.Repartition p (parting.Hash keys n)

abbrev pub grouped_input : List ℕ → ℕ → Plan → Plan
grouped_input [] n p = gathered p
grouped_input (k ∷ ks) n p = hashed (need.Hash (k ∷ ks) n) (k ∷ ks) n p

abbrev pub join_input : List ℕ → ℕ → Plan → Plan
join_input keys n p = hashed (need.JoinHash keys n) keys n p

abbrev pub spread : ℕ → ℕ → Bool → Plan → Plan
spread n partitions above p = if above && nat_lt partitions n then plan.Repartition p (parting.RoundRobin n) else p

-- whether scans below a node are spread, from whether those below its place are
abbrev pub spreads : {A : Type 0} → Plan-F A → Bool → Bool
spreads (Plan-F.PartialGroup input keys calls) above = true
spreads (Plan-F.HashJoin kind left right keys rest) above = true
spreads (Plan-F.Sort input keys) above = true
spreads _ above = above

-- a node over inputs that have their exchanges
abbrev pub exchange : ℕ → Bool → Plan-F Plan → Plan
exchange n above (Plan-F.Scan table kinds files partitions) = spread n partitions above (plan.Scan table kinds files partitions)
exchange n above (Plan-F.FinalGroup input keys calls) = plan.FinalGroup (grouped_input keys n input) keys calls
exchange n above (Plan-F.HashJoin kind left right keys rest) = plan.HashJoin kind (join_input (left_keys keys) n left) (join_input (right_keys keys) n right) keys rest
exchange n above (Plan-F.Limit input skip fetch) = plan.Limit (gathered input) skip fetch
exchange n above z = rebuilt z

abbrev pub distribute : ℕ → Plan-F Below → Below
distribute n z above = exchange n above (map-Plan Below Plan (λ f. f (spreads z above)) z)

unfoldable pub distributed : ℕ → Plan → Below
distributed n = fold-Plan Below (distribute n)

abbrev pub enforce_distribution : Plan → ℕ → Plan
enforce_distribution p n = gathered (distributed n p false)
