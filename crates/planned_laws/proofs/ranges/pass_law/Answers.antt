use Rattle.planned_laws.proofs.Orders.{ranged_itself}
use Rattle.planned_laws.proofs.Passes.{ranged_distribution, ranged_sorting}
use Rattle.planned_laws.proofs.ranges.pass_law.Goals as goal

pub returns : goal.returns
returns c = record {
  distribution = λ p n e. (ranged_distribution n p e).all;
  sorting = λ p e. (ranged_sorting p e).all;
  distributed_width = λ p n e. (ranged_distribution n p e).wide;
  sorted_width = λ p e. (ranged_sorting p e).wide;
  orders = λ p e. (ranged_itself p e).order;
}
