-- Meaning: all that the operators, hashes and files of plans owe to answers, where groups and joins are spread as
-- plans declare.
use Rattle.std.specs.Prelude.{ℕ, ◌≡◌, Option}
use Rattle.plan_props.specs.Meets.{Hashing}
use Rattle.physical_plan.specs.declared.plan.Plan.{Plan}
use Rattle.physical_plan.specs.declared.plan.Plan.TheOpen.{Plan-F}
use Rattle.logical_plan.specs.Body.{Tables}
use Rattle.tree_laws.specs.OperatorKinds.{limit_op}
use Rattle.plan_task_laws.specs.Trees.{Doing}
use Rattle.plan_task_laws.specs.Reading.{AreOperators}
use Rattle.answer_laws.specs.Meant.{Phases}
use Rattle.answer_laws.specs.Answering.{IsAnswering}
use Rattle.answer_laws.specs.Parted.{LawsOfParts}
use Rattle.answer_laws.specs.Ordered.{IsOrdering}
use Rattle.finished_laws.specs.Sound.{on_properties}
use Rattle.finished_laws.specs.Rows.{IsChannelOf, AreGroups}

pub record IsEngineBy (h : Hashing) (f : Doing) (tables : Tables) (n : ℕ) (phases : Phases) : Type 0 where
  pub operators : AreOperators f
  pub channels : IsChannelOf h f
  pub answering : IsAnswering f tables (on_properties tables n) phases
  pub ordering : IsOrdering f
  pub limits : (q : Plan) (skip : ℕ) (fetch : Option ℕ) (c : ℕ)
      → f.operator (Plan-F.Limit q skip fetch) 1 c ≡ limit_op skip fetch
  pub lists : LawsOfParts phases
  pub groups : AreGroups phases
