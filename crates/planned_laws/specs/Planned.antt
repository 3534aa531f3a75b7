-- Meaning: what the plan of a query has, once exchanges and sorts are in.
use Rattle.std.specs.Prelude.{ℕ, List}
use Rattle.logical_plan.specs.declared.query.Query.{Query}
use Rattle.physical_plan.specs.declared.plan.Plan.{Plan}
use Rattle.planned_laws.specs.Finished.{IsFinished}
use Rattle.physical_build.specs.Build.{build}

-- a finished plan of the query's plain plan, over tables of so many files, for n partitions
abbrev pub IsPlanned : Query → List ℕ → Plan → ℕ → Type 0
IsPlanned q files p n = IsFinished (build q files n) q.order n p
