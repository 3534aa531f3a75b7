-- The plans that the planner makes, with their columns in range, answer as the query allows.
use Rattle.std.proofs.Common.{ℕ, ◌<◌, ◌≡◌, List, true}
use Rattle.plan_props.specs.Meets.{Hashing}
use Rattle.physical_plan.specs.declared.plan.Plan.{Plan}
use Rattle.physical_build.specs.Build.{build}
use Rattle.enforce_dist.specs.Distribute.{enforce_distribution}
use Rattle.enforce_sort.specs.Arrange.{enforce_sorting}
use Rattle.planned_laws.specs.Queries.{QueryInRange}
use Rattle.planned_laws.specs.Wholly.{IsWhollyPlanned}
use Rattle.planned_laws.proofs.Facts.{all_needs_ranged}
use Rattle.planned_laws.proofs.Wholly.{wholly_planned as planned}
use Rattle.logical_plan.specs.declared.query.Query.{Query}
use Rattle.logical_plan.specs.Allowed.{Allowed}
use Rattle.logical_plan.specs.Body.{Tables}
use Rattle.tree_laws.specs.Runs.{State, the_task}
use Rattle.plan_task_laws.specs.Trees.{Doing}
use Rattle.answer_laws.specs.Distincts.{has_distincts}
use Rattle.answer_laws.specs.Finished.{IsFinishedRun}
use Rattle.part_laws.specs.Phased.{the_phases}
use Rattle.finished_laws.specs.Known.{is_known}
use Rattle.finished_laws.specs.Engine.{IsEngineBy}
use Rattle.finished_laws.proofs.Laws.{allowed}

module _ (h : Hashing) (f : Doing) (tables : Tables) (n : ℕ) (engine : IsEngineBy h f tables n the_phases) (q : Query) (distincts : has_distincts tables q.body ≡ true)
    (files : List ℕ) (known : is_known tables files q.body ≡ true) (more : 0 < n) where
  pub of_plans : (p : Plan) → IsWhollyPlanned q files p n → (s : State) → IsFinishedRun f p s → Allowed q tables (the_task s.tasks 0).output
  of_plans p plan s run = allowed h f tables n the_phases engine q distincts files known more p plan.planned (all_needs_ranged p plan.ranges) s run

  pub of_planner : QueryInRange q → (s : State) → IsFinishedRun f (enforce_sorting (enforce_distribution (build q files n) n)) s → Allowed q tables (the_task s.tasks 0).output
  of_planner ranges s run = of_plans (enforce_sorting (enforce_distribution (build q files n) n)) (planned q files n ranges) s run
