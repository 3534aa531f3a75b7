-- Meaning: the inputs of a plan's exchanges, each of which is a stage of its own.
use Rattle.std.specs.Prelude.{ℕ, ◌+◌, List, [], ◌∷◌, ◌++◌}
use Rattle.plan_props.specs.declared.properties.Partitioning.{Partitioning}
use Rattle.plan_props.specs.declared.properties.Partitioning.TheVariants as parting
use Rattle.plan_props.specs.Satisfies.{partition_count}
use Rattle.physical_plan.specs.declared.plan.Plan.{Plan}
use Rattle.physical_plan.specs.declared.plan.Plan.TheOpen.{Plan-F}
use Rattle.physical_plan.specs.declared.plan.Plan.TheFolds.{para-Plan}
use Rattle.physical_plan.specs.Numbers.{numbers}
use Rattle.plan_task_laws.specs.Trees.{stages_in, sources_in}

-- where the batches of a stage go: they are written; each row by a hash of columns to one of so many channels; each
-- batch to one of so many in turn; all to one; or each partition's to its own
pub data Way : Type 0 where
  Written : Way
  ByHash : (columns : List ℕ) (n : ℕ) → Way
  InTurn : (n : ℕ) → Way
  ToOne : Way
  ToOwn : Way

-- the channels to which partition i sends, and how many channels there are, where there are m partitions
abbrev pub targets_by : Way → ℕ → List ℕ
targets_by Written i = []
targets_by (ByHash columns n) i = numbers n
targets_by (InTurn n) i = numbers n
targets_by ToOne i = 0 ∷ []
targets_by ToOwn i = i ∷ []

abbrev pub width_by : Way → ℕ → ℕ
width_by Written m = 0
width_by (ByHash columns n) m = n
width_by (InTurn n) m = n
width_by ToOne m = 1
width_by ToOwn m = m

-- a plan that is a stage: its number, that of its first source, and where its batches go
pub record Top : Type 0 where
  pub stage : ℕ
  pub source : ℕ
  pub plan : Plan
  pub way : Way

abbrev pub top : ℕ → ℕ → Plan → Way → Top
top k s p w = record { stage = k; source = s; plan = p; way = w }

-- from the number of the next stage that opens, and that of the next source
abbrev pub Topping : Type 0
Topping = ℕ → ℕ → List Top

abbrev pub way_to : Partitioning → Way
way_to (parting.Hash columns n) = ByHash columns n
way_to to = InTurn (partition_count to)

-- the input of an exchange, before the inputs in it
abbrev pub opening : Way → Plan × Topping → Topping
opening w p k s = top k s p.0 w ∷ p.1 (k + 1) s

abbrev pub tops_after : List (Plan × Topping) → Topping
tops_after [] k s = []
tops_after (p ∷ ps) k s = p.1 k s ++ tops_after ps (k + stages_in p.0) (s + sources_in p.0)

abbrev pub top_node : Plan-F (Plan × Topping) → Topping
top_node (Plan-F.Scan table kinds files partitions) k s = []
top_node (Plan-F.Filter input test) k s = input.1 k s
top_node (Plan-F.Project input items) k s = input.1 k s
top_node (Plan-F.PartialGroup input keys calls) k s = input.1 k s
top_node (Plan-F.FinalGroup input keys calls) k s = input.1 k s
top_node (Plan-F.HashJoin kind left right keys rest) k s =
    left.1 k s ++ right.1 (k + stages_in left.0) (s + sources_in left.0)
top_node (Plan-F.Sort input keys) k s = input.1 k s
top_node (Plan-F.Merge input keys) k s = opening ToOwn input k s
top_node (Plan-F.Coalesce input) k s = opening ToOne input k s
top_node (Plan-F.Repartition input to) k s = opening (way_to to) input k s
top_node (Plan-F.UnionAll inputs) k s = tops_after inputs k s
top_node (Plan-F.Limit input skip fetch) k s = input.1 k s

-- the inputs of a plan's exchanges, node before inputs, left to right
unfoldable pub tops : Plan → Topping
tops = para-Plan Topping top_node

-- with the plan itself, which is stage 0 and is written
abbrev pub all_tops : Plan → List Top
all_tops plan = top 0 0 plan Written ∷ tops plan 1 0
