-- A finished plan of a query can be told, or is a limit of one that can.
use Rattle.std.specs.Prelude.{nat_lt}
use Rattle.std.proofs.Common.{ℕ, ◌<◌, ◌≡◌, inl, inr, refl, List, Bool, true, false, ◌||◌, is_some}
use Rattle.physical_plan.specs.declared.plan.Plan.{Plan}
use Rattle.physical_plan.specs.Everywhere.{everywhere}
use Rattle.planned_laws.specs.Finished.{IsFinished}
use Rattle.physical_build.specs.Build.{build}
use Rattle.logical_plan.specs.declared.query.Query.{Query}
use Rattle.logical_plan.specs.Body.{Tables}
use Rattle.node_laws.specs.Tests.{needs_in_range}
use Rattle.answer_laws.specs.Meant.{Phases}
use Rattle.answer_laws.specs.Parted.{LawsOfParts}
use Rattle.answer_laws.specs.Distincts.{has_distincts}
use Rattle.finished_laws.specs.Known.{is_known}
use Rattle.finished_laws.proofs.Told as sound_plans
use Rattle.finished_laws.proofs.Allowed as plans
use Rattle.fault_laws.specs.Found.{IsToldTop}

pub told_top : (phases : Phases) → LawsOfParts phases → (tables : Tables) (q : Query) → has_distincts tables q.body ≡ true → (files : List ℕ) → is_known tables files q.body ≡ true → (n : ℕ) → 0 < n
    → (p : Plan) → IsFinished (build q files n) q.order n p → everywhere needs_in_range p ≡ true → IsToldTop tables n p
told_top phases lists tables q distincts files known n more p fin ranges = by (is_some q.limit || nat_lt 0 q.offset) refl
  where
    by : (b : Bool) → is_some q.limit || nat_lt 0 q.offset ≡ b → IsToldTop tables n p
    by true e = (let l = plans.limited phases lists tables q distincts files known n more e p fin ranges in inr (l.input, q.offset, q.limit, l.is, sound_plans.told tables n l.input l.sound))
    by false e = inl (sound_plans.told tables n p (plans.unlimited phases lists tables q distincts files known n more e p fin ranges))
