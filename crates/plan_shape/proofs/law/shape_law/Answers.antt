use Rattle.std.proofs.Common.{ap}
use Rattle.plan_shape.specs.Counts.{Counted}
use Rattle.plan_shape.proofs.Lawful.{is_shape}
use Rattle.plan_shape.proofs.Countings.{shape_stages, every_counted}
use Rattle.plan_shape.proofs.Owners.{has_owners, numbered}
use Rattle.plan_shape.proofs.Ascending.{ascending}
use Rattle.plan_shape.proofs.law.shape_law.Goals as goal

pub returns : goal.returns
returns c = record {
  lawful = is_shape;
  stages = shape_stages;
  ascending = ascending;
  owners = has_owners;
  numbered = numbered;
  laid = λ p k. ap (λ (n : Counted). n.parts) (every_counted p k);
  opened = λ p k. ap (λ (n : Counted). n.stages) (every_counted p k);
}
