-- The plan of a query whose columns are in range, through both passes.
use Rattle.std.proofs.Common.{ℕ, ◌≡◌, ◌∙◌, List}
use Rattle.logical_plan.specs.declared.query.Query.{Query}
use Rattle.physical_build.specs.Build.{body_plan, build}
use Rattle.planned_laws.proofs.Plains.{body_is_plain}
use Rattle.enforce_dist.specs.Distribute.{enforce_distribution}
use Rattle.enforce_sort.specs.Arrange.{enforce_sorting}
use Rattle.planned_laws.proofs.Finished.{is_finished}
use Rattle.planned_laws.specs.Ranges.{width}
use Rattle.planned_laws.specs.Queries.{body_width, QueryInRange}
use Rattle.planned_laws.specs.Wholly.{IsWhollyPlanned}
use Rattle.planned_laws.proofs.Nodes.{Ranged}
use Rattle.planned_laws.proofs.Passes.{ranged_distribution, ranged_sorting}
use Rattle.planned_laws.proofs.Bodies.{ranged_build}

module _ (q : Query) (files : List ℕ) (n : ℕ) (r : QueryInRange q) where
  finished_ranged : Ranged (width (enforce_distribution (build q files n) n)) (enforce_sorting (enforce_distribution (build q files n) n))
  finished_ranged = ranged_sorting (enforce_distribution (build q files n) n) (ranged_distribution n (build q files n) (ranged_build files n q r).all).all

  pub wholly_planned : IsWhollyPlanned q files (enforce_sorting (enforce_distribution (build q files n) n)) n
  wholly_planned = record {
    planned = is_finished (body_plan files n q.body) q.order q.offset q.limit n (body_is_plain files n q.body);
    ranges = finished_ranged.all;
  }

  pub finished_width : width (enforce_sorting (enforce_distribution (build q files n) n)) ≡ body_width q.body
  finished_width = finished_ranged.wide ∙ (ranged_distribution n (build q files n) (ranged_build files n q r).all).wide ∙ (ranged_build files n q r).wide
