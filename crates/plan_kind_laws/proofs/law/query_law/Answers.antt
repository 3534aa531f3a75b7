use Rattle.plan_kind_laws.proofs.Bodies.{body_kinds, build_kinds, planned_kinds}
use Rattle.plan_kind_laws.proofs.law.query_law.Goals as goal

pub returns : goal.returns
returns c = record {
  bodies = λ kss files n q e. body_kinds kss files n q e;
  built = λ kss files n q e. build_kinds kss files n q e;
  planned = λ kss files n q p e t. planned_kinds kss files n q p e t;
}
