-- Meaning: the plan of a node over the plans of its inputs, for definitions that change some of the nodes alone.
use Rattle.physical_plan.specs.declared.plan.Plan.{Plan}
use Rattle.physical_plan.specs.declared.plan.Plan.TheVariants as plan
use Rattle.physical_plan.specs.declared.plan.Plan.TheOpen.{Plan-F}

abbrev pub rebuilt : Plan-F Plan → Plan
rebuilt (Plan-F.Scan table kinds files partitions) = plan.Scan table kinds files partitions
rebuilt (Plan-F.Filter input test) = plan.Filter input test
rebuilt (Plan-F.Project input items) = plan.Project input items
rebuilt (Plan-F.PartialGroup input keys calls) = plan.PartialGroup input keys calls
rebuilt (Plan-F.FinalGroup input keys calls) = plan.FinalGroup input keys calls
rebuilt (Plan-F.HashJoin kind left right keys rest) = plan.HashJoin kind left right keys rest
rebuilt (Plan-F.Sort input keys) = plan.Sort input keys
rebuilt (Plan-F.Merge input keys) = plan.Merge input keys
rebuilt (Plan-F.Coalesce input) = plan.Coalesce input
rebuilt (Plan-F.Repartition input to) = plan.Repartition input to
rebuilt (Plan-F.UnionAll inputs) = plan.UnionAll inputs
rebuilt (Plan-F.Limit input skip fetch) = plan.Limit input skip fetch
