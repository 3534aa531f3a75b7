use Rattle.node_laws.proofs.Wholes.{needs_met}
use Rattle.planned_laws.proofs.Facts.{ranges_of, all_needs_ranged}
use Rattle.planned_laws.proofs.ranges.column_law.Goals as goal

pub returns : goal.returns
returns c = record {
  ranges = ranges_of;
  tests = all_needs_ranged;
  needs = λ h is n node s r d o. needs_met h is n node s (ranges_of node r) d o;
}
