use Rattle.planner_laws.proofs.Planner.{of_plans, of_planner}
use Rattle.planner_laws.proofs.law.planner_law.Goals as goal

pub returns : goal.returns
returns c = record {
  plans = λ h f tables n engine q distincts files known more p plan s run. of_plans h f tables n engine q distincts files known more p plan s run;
  planner = λ h f tables n engine q distincts files known more ranges s run. of_planner h f tables n engine q distincts files known more ranges s run;
}
