use Rattle.planned_laws.proofs.Bodies.{ranged_build}
use Rattle.planned_laws.proofs.Wholly.{wholly_planned, finished_width}
use Rattle.planned_laws.proofs.ranges.range_law.Goals as goal

pub returns : goal.returns
returns c = record {
  built = λ q files n r. (ranged_build files n q r).all;
  planned = wholly_planned;
  width = finished_width;
}
