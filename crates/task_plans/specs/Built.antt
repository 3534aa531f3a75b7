-- Meaning: the plans whose tasks can be made.
use Rattle.std.specs.Prelude.{Bool, true, false}
use Rattle.plan_props.specs.declared.properties.Partitioning.{Partitioning}
use Rattle.plan_props.specs.declared.properties.Partitioning.TheVariants as parting
use Rattle.physical_plan.specs.declared.plan.Plan.{Plan}
use Rattle.physical_plan.specs.declared.plan.Plan.TheOpen.{Plan-F}
use Rattle.physical_plan.specs.Everywhere.{Test, everywhere}

-- round-robin
abbrev pub is_in_turn : Partitioning → Bool
is_in_turn (parting.RoundRobin n) = true
is_in_turn _ = false

-- the nodes of which code makes tasks
abbrev pub built_node : Test
built_node (Plan-F.Scan table kinds files partitions) = true
built_node (Plan-F.Filter input test) = true
built_node (Plan-F.Project input items) = true
built_node (Plan-F.Coalesce input) = true
built_node (Plan-F.Repartition input to) = is_in_turn to
built_node (Plan-F.UnionAll inputs) = true
built_node _ = false

abbrev pub is_built : Plan → Bool
is_built = everywhere built_node
