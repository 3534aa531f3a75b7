-- Meaning: what a finished plan is.
use Rattle.std.specs.Prelude.{ℕ, ◌≡◌, ◌==◌, Bool, true, false, not, ◌&&◌, nat_lt, List, [], ◌∷◌, ◌++◌, map}
use Rattle.dfx_value.specs.Items.{concat}
use Rattle.dfx_value.specs.declared.rows.SortKey.{SortKey}
use Rattle.plan_props.specs.declared.properties.Partitioning.{Partitioning}
use Rattle.plan_props.specs.declared.properties.Partitioning.TheVariants as parting
use Rattle.plan_props.specs.declared.properties.Distribution.{Distribution}
use Rattle.plan_props.specs.declared.properties.Distribution.TheVariants as need
use Rattle.plan_props.specs.Satisfies.{satisfies_distribution, satisfies_order}
use Rattle.physical_plan.specs.declared.plan.Plan.{Plan, out-Plan}
use Rattle.physical_plan.specs.declared.plan.Plan.TheVariants as plan
use Rattle.physical_plan.specs.declared.plan.Plan.TheOpen.{Plan-F}
use Rattle.physical_plan.specs.declared.plan.Plan.TheFolds.{fold-Plan, para-Plan}
use Rattle.physical_plan.specs.Properties.{props, partitions, left_keys, right_keys}
use Rattle.physical_plan.specs.Everywhere.{Test, everywhere, kids, erased}
use Rattle.physical_plan.specs.Needs.{group_need, spread_needs, order_needs}

-- ---- the order below a limit

-- what the input of a Limit has
abbrev pub limited_order : List SortKey → Test
limited_order order (Plan-F.Limit input skip fetch) = satisfies_order (props input) order
limited_order order _ = true

-- no limit
abbrev pub no_limit : Test
no_limit (Plan-F.Limit input skip fetch) = false
no_limit _ = true

-- where the plain plan is a limit, the plan is the same limit over a plan that has none, and else it has none
abbrev pub LimitAtRoot : Plan-F Plan → Plan → Type 0
LimitAtRoot (Plan-F.Limit input skip fetch) p = (q : Plan) × (p ≡ plan.Limit q skip fetch) × (everywhere no_limit q ≡ true)
LimitAtRoot _ p = everywhere no_limit p ≡ true

-- ---- as many partitions as there are

abbrev pub grouped_parts : List ℕ → ℕ → Plan → Bool
grouped_parts [] n p = true
grouped_parts (k ∷ ks) n p = partitions p == n

abbrev pub have_parts : ℕ → Test
have_parts n (Plan-F.FinalGroup input keys calls) = grouped_parts keys n input
have_parts n (Plan-F.HashJoin kind left right keys rest) = partitions left == n
have_parts n _ = true

-- ---- nothing without need

abbrev pub goes_to : ℕ → Partitioning → Bool
goes_to n (parting.RoundRobin m) = m == n
goes_to n (parting.Hash cs m) = m == n
goes_to n _ = false

-- nothing that was there already
abbrev pub lean : ℕ → Test
lean n (Plan-F.Coalesce input) = not (partitions input == 1)
lean n (Plan-F.Merge input keys) = not (partitions input == 1)
lean n (Plan-F.Sort input keys) = not (satisfies_order (props input) keys)
lean n (Plan-F.Repartition input to) = goes_to n to
lean n _ = true

-- a need for a hash
abbrev pub asks_hash : Distribution → Bool
asks_hash (need.Hash keys n) = true
asks_hash (need.JoinHash keys n) = true
asks_hash _ = false

-- a hash exchange serves a need for a hash that its input doesn't meet
abbrev pub exchange_serves : Partitioning → Plan → Distribution → Bool
exchange_serves (parting.Hash cs m) input d = asks_hash d && not (satisfies_distribution (props input) d)
exchange_serves to input d = true

-- read through Sorts
abbrev pub serves_node : Plan-F (Plan × (Distribution → Bool)) → Distribution → Bool
serves_node (Plan-F.Sort input keys) d = input.1 d
serves_node (Plan-F.Repartition input to) d = exchange_serves to input.0 d
serves_node _ d = true

-- a plan below a need is no hash exchange that doesn't serve it, nor are Sorts over one
unfoldable pub serves : Plan → Distribution → Bool
serves = para-Plan (Distribution → Bool) serves_node

abbrev pub all_serve : List Plan → Bool
all_serve [] = true
all_serve (p ∷ ps) = serves p need.Unspecified && all_serve ps

-- each hash exchange serves the nearest node above it that isn't a Sort
abbrev pub inputs_serve : ℕ → Test
inputs_serve n (Plan-F.FinalGroup input keys calls) = serves input (group_need keys n)
inputs_serve n (Plan-F.HashJoin kind left right keys rest) =
    serves left (need.JoinHash (left_keys keys) n) && serves right (need.JoinHash (right_keys keys) n)
inputs_serve n (Plan-F.Sort input keys) = true
inputs_serve n z = all_serve (kids z)

-- ---- round-robin

abbrev pub on_scan : Plan-F Plan → Bool
on_scan (Plan-F.Scan table kinds files partitions) = true
on_scan _ = false

-- round-robin stands on scans alone
abbrev pub robin_on : Partitioning → Plan → Bool
robin_on (parting.RoundRobin m) p = on_scan (out-Plan p)
robin_on _ p = true

abbrev pub on_scans : Test
on_scans (Plan-F.Repartition input to) = robin_on to input
on_scans _ = true

-- for each scan, left to right: whether it is to be spread
abbrev pub Wanting : Type 0
Wanting = Bool → List Bool

abbrev pub wanted_node : ℕ → Plan-F Wanting → Wanting
wanted_node n (Plan-F.Scan table kinds files partitions) above = (above && nat_lt partitions n) ∷ []
wanted_node n (Plan-F.Filter input test) above = input above
wanted_node n (Plan-F.Project input items) above = input above
wanted_node n (Plan-F.PartialGroup input keys calls) above = input true
wanted_node n (Plan-F.FinalGroup input keys calls) above = input above
wanted_node n (Plan-F.HashJoin kind left right keys rest) above = left true ++ right true
wanted_node n (Plan-F.Sort input keys) above = input true
wanted_node n (Plan-F.Merge input keys) above = input above
wanted_node n (Plan-F.Coalesce input) above = input above
wanted_node n (Plan-F.Repartition input to) above = input above
wanted_node n (Plan-F.UnionAll inputs) above = concat (map (λ (f : Wanting). f above) inputs)
wanted_node n (Plan-F.Limit input skip fetch) above = input above

unfoldable pub wanted : ℕ → Plan → Wanting
wanted n = fold-Plan Wanting (wanted_node n)

abbrev pub is_robin : Partitioning → Bool
is_robin (parting.RoundRobin m) = true
is_robin _ = false

-- for each scan, left to right: whether round-robin stands on it
abbrev pub found_node : Plan-F Wanting → Wanting
found_node (Plan-F.Scan table kinds files partitions) above = above ∷ []
found_node (Plan-F.Filter input test) above = input false
found_node (Plan-F.Project input items) above = input false
found_node (Plan-F.PartialGroup input keys calls) above = input false
found_node (Plan-F.FinalGroup input keys calls) above = input false
found_node (Plan-F.HashJoin kind left right keys rest) above = left false ++ right false
found_node (Plan-F.Sort input keys) above = input false
found_node (Plan-F.Merge input keys) above = input false
found_node (Plan-F.Coalesce input) above = input false
found_node (Plan-F.Repartition input to) above = input (is_robin to)
found_node (Plan-F.UnionAll inputs) above = concat (map (λ (f : Wanting). f false) inputs)
found_node (Plan-F.Limit input skip fetch) above = input false

unfoldable pub found : Plan → Wanting
found = fold-Plan Wanting found_node

-- ---- a finished plan (but for the ranges of columns)

-- of a plain plan, whose rows are to stand in an order, for n partitions
pub record IsFinished (plain : Plan) (order : List SortKey) (n : ℕ) (p : Plan) : Type 0 where
  pub tree : erased p ≡ erased plain
  pub spread_met : everywhere (spread_needs n) p ≡ true
  pub order_met : everywhere order_needs p ≡ true
  pub root_single : partitions p ≡ 1
  pub root_order : satisfies_order (props p) order ≡ true
  pub limit_order : everywhere (limited_order order) p ≡ true
  pub limit_top : LimitAtRoot (out-Plan plain) p
  pub parts : everywhere (have_parts n) p ≡ true
  pub lean_nodes : everywhere (lean n) p ≡ true
  pub exchanges_serve : everywhere (inputs_serve n) p ≡ true
  pub root_served : serves p need.Single ≡ true
  pub robins : everywhere on_scans p ≡ true
  pub spread : found p false ≡ wanted n plain false
