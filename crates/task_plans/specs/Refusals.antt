-- Meaning: when a plan is refused, and why.
use Rattle.std.specs.Prelude.{◌≡◌, ⊤, false, None, List, map}
use Rattle.physical_plan.specs.declared.plan.Plan.{Plan}
use Rattle.physical_plan.specs.Everywhere.{everywhere, all_true}
use Rattle.plan_kinds.specs.Kinds.{kinds, inputs_have_kinds}
use Rattle.task_plans.specs.declared.refused.PlanRefused.{PlanRefused}
use Rattle.task_plans.specs.declared.refused.PlanRefused.TheVariants as refused
use Rattle.task_plans.specs.Built.{is_built}

-- a refusal of a plan, of one of several plans, and of an operator over a plan
abbrev pub Refuses : PlanRefused → Plan → Type 0
Refuses refused.NotBuilt p = is_built p ≡ false
Refuses refused.NoKind p = everywhere inputs_have_kinds p ≡ false
Refuses refused.NoMemory p = ⊤

abbrev pub RefusesSome : PlanRefused → List Plan → Type 0
RefusesSome refused.NotBuilt ps = all_true (map is_built ps) ≡ false
RefusesSome refused.NoKind ps = all_true (map (everywhere inputs_have_kinds) ps) ≡ false
RefusesSome refused.NoMemory ps = ⊤

abbrev pub RefusesOver : PlanRefused → Plan → Type 0
RefusesOver refused.NotBuilt p = ⊥
RefusesOver refused.NoKind p = kinds p ≡ None
RefusesOver refused.NoMemory p = ⊤
