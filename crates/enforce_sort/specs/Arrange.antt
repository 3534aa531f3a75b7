-- Meaning: the sorts that a plan's orders ask for.
use Rattle.std.specs.Prelude.{List, if◌then◌else◌}
use Rattle.dfx_value.specs.declared.rows.SortKey.{SortKey}
use Rattle.plan_props.specs.Satisfies.{satisfies_order}
use Rattle.physical_plan.specs.declared.plan.Plan.{Plan}
use Rattle.physical_plan.specs.declared.plan.Plan.TheVariants as plan
use Rattle.physical_plan.specs.declared.plan.Plan.TheOpen.{Plan-F}
use Rattle.physical_plan.specs.declared.plan.Plan.TheFolds.{fold-Plan}
use Rattle.physical_plan.specs.Rebuilt.{rebuilt}
use Rattle.physical_plan.specs.Properties.{props}

abbrev pub with_sort : List SortKey → Plan → Plan
with_sort keys p = if satisfies_order (props p) keys then p else plan.Sort p keys

-- a node over inputs that have their sorts
abbrev pub arrange : Plan-F Plan → Plan
arrange (Plan-F.Sort input keys) = with_sort keys input
arrange (Plan-F.Merge input keys) = plan.Merge (with_sort keys input) keys
arrange z = rebuilt z

unfoldable pub enforce_sorting : Plan → Plan
enforce_sorting = fold-Plan Plan arrange
