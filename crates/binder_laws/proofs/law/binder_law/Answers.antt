use Rattle.planned_laws.proofs.Wholly.{wholly_planned}
use Rattle.binder_laws.proofs.Bounds.{bound_in_range}
use Rattle.binder_laws.proofs.law.binder_law.Goals as goal

pub returns : goal.returns
returns c = record {
  ranges = λ script schemas q e. (bound_in_range script schemas q e).ranges;
  names = λ script schemas q e. (bound_in_range script schemas q e).names;
  planned = λ script schemas q files n e. wholly_planned q files n (bound_in_range script schemas q e).ranges;
}
