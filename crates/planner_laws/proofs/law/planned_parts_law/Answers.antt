use Rattle.planner_laws.proofs.GroupRows.{groups}
use Rattle.planner_laws.proofs.Engine.{engine, there_are}
use Rattle.planner_laws.proofs.law.planned_parts_law.Goals as goal

pub returns : goal.returns
returns c = record { groups = groups; engine = engine; doing = there_are }
