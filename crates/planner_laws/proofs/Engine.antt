-- Operators of these kinds owe what the answers of finished plans ask.
use Rattle.std.proofs.Common.{ℕ, refl}
use Rattle.plan_props.specs.Meets.{Hashing, IsHash}
use Rattle.physical_plan.specs.declared.plan.Plan.{Plan}
use Rattle.physical_plan.specs.declared.plan.Plan.TheOpen.{Plan-F}
use Rattle.logical_plan.specs.Body.{Tables}
use Rattle.plan_task_laws.specs.Trees.{Doing}
use Rattle.plan_task_laws.specs.Reading.{AreOperators}
use Rattle.part_laws.specs.Phased.{the_phases}
use Rattle.part_laws.specs.Made.{Amount, IsMade}
use Rattle.part_laws.specs.Doing.{the_doing}
use Rattle.part_laws.proofs.Doing.{made, operators}
use Rattle.part_laws.proofs.Lists.{parts}
use Rattle.part_laws.proofs.Made.{answering, ordering}
use Rattle.finished_laws.specs.Sound.{on_properties}
use Rattle.finished_laws.specs.Rows.{IsChannelOf}
use Rattle.finished_laws.specs.Engine.{IsEngineBy}
use Rattle.planner_laws.specs.Channels.{channel_by}
use Rattle.planner_laws.proofs.GroupRows.{groups}

pub engine : (h : Hashing) (f : Doing) (tables : Tables) (n : ℕ) → IsMade f tables (on_properties tables n) → AreOperators f → IsChannelOf h f → IsEngineBy h f tables n the_phases
engine h f tables n made are channels = record {
  operators = are;
  channels = channels;
  answering = answering f tables (on_properties tables n) made;
  ordering = ordering f tables (on_properties tables n) made;
  limits = made.limit;
  lists = parts;
  groups = groups;
}

-- there are such operators, for any hash
pub there_are : (h : Hashing) → IsHash h → (tables : Tables) (n : ℕ) (amount : Plan-F Plan → Amount) → IsEngineBy h (the_doing tables amount (channel_by h)) tables n the_phases
there_are h hash tables n amount =
    engine h (the_doing tables amount (channel_by h)) tables n (made tables amount (channel_by h) (on_properties tables n)) (operators tables amount (channel_by h))
    (record { hash = hash; channel = λ columns n r. refl })
