-- Meaning: what the plan of a query has, once exchanges and sorts are in, its columns in range included.
use Rattle.std.specs.Prelude.{ℕ, ◌≡◌, true, List}
use Rattle.logical_plan.specs.declared.query.Query.{Query}
use Rattle.physical_plan.specs.declared.plan.Plan.{Plan}
use Rattle.physical_plan.specs.Everywhere.{everywhere}
use Rattle.planned_laws.specs.Planned.{IsPlanned}
use Rattle.planned_laws.specs.Ranges.{in_range}

-- a finished plan of the query's plain plan, over tables of so many files, for n partitions, with all columns in range
pub record IsWhollyPlanned (q : Query) (files : List ℕ) (p : Plan) (n : ℕ) : Type 0 where
  pub planned : IsPlanned q files p n
  pub ranges : everywhere in_range p ≡ true
