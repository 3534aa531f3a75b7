use Rattle.plan_kind_laws.proofs.Erased.{erased_kinds}
use Rattle.plan_kind_laws.proofs.Phases.{phases}
use Rattle.plan_kind_laws.proofs.Inputs.{inputs_kinds}
use Rattle.plan_kind_laws.proofs.law.phases_law.Goals as goal

pub returns : goal.returns
returns c = record { erased = erased_kinds; phases = phases; nodes = inputs_kinds }
