-- The operators of plans' nodes are of these kinds, and owe what operators owe.
use Rattle.std.proofs.Common.{Bool, ℕ, refl, ap, List, [], get_or, Option, Some}
use Rattle.physical_plan.specs.declared.plan.Plan.{Plan}
use Rattle.physical_plan.specs.declared.plan.Plan.TheOpen.{Plan-F}
use Rattle.logical_plan.specs.Items.{Cells}
use Rattle.logical_plan.specs.Body.{Tables}
use Rattle.tree_laws.specs.OperatorKinds.{end_op}
use Rattle.plan_task_laws.specs.Reading.{AreOperators}
use Rattle.plan_task_laws.proofs.Operators.{are_operators}
use Rattle.answer_laws.specs.Meant.{Grouping, files_of}
use Rattle.part_laws.specs.Made.{Amount, IsMade}
use Rattle.part_laws.specs.Doing.{second_of, node_items, the_doing}

module _ (tables : Tables) (amount : Plan-F Plan → Amount) (channel : List ℕ → ℕ → Cells → ℕ) where
  pub made : (spread : Plan-F Plan → Bool) → IsMade (the_doing tables amount channel) tables spread
  made spread = record {
    items = λ table file. refl;
    filter = λ q test c. refl;
    project = λ q items c. refl;
    partial = λ q keys calls i c. (amount (Plan-F.PartialGroup q keys calls), refl);
    final = λ q keys calls g e k l c. (amount (Plan-F.FinalGroup q keys calls), ap (λ (o : Option Grouping). end_op (second_of o) (amount (Plan-F.FinalGroup q keys calls)) (Some c)) e);
    join = λ kind p q keys rest i j c. (amount (Plan-F.HashJoin kind p q keys rest), refl);
    sort = λ q keys c. (amount (Plan-F.Sort q keys), refl);
    merge = λ q keys n c. refl;
    limit = λ q skip fetch c. refl;
  }

  pub operators : AreOperators (the_doing tables amount channel)
  operators = are_operators (node_items tables amount) channel (λ table file. get_or (files_of tables table) file [])
