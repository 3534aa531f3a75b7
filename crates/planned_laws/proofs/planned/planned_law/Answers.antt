use Rattle.physical_build.specs.Build.{body_plan}
use Rattle.planned_laws.proofs.Plains.{body_is_plain}
use Rattle.planned_laws.proofs.Finished.{is_finished}
use Rattle.planned_laws.proofs.planned.planned_law.Goals as goal

pub returns : goal.returns
returns c = λ q files n. is_finished (body_plan files n q.body) q.order q.offset q.limit n (body_is_plain files n q.body)
