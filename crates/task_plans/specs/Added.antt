-- Words: what calls append to lists of stations and of tasks.
use Rattle.std.specs.Prelude.{ℕ, ◌+◌, ◌≡◌, List, [], ◌∷◌, ◌++◌, reverse, Some, None}
use Rattle.tree_laws.specs.Tasks.{Task}
use Rattle.physical_plan.specs.declared.plan.Plan.{Plan}
use Rattle.plan_task_laws.specs.Trees.{Doing, Seed, stages_in, sources_in}
use Rattle.plan_kinds.specs.Kinds.{kinds}
use Rattle.plan_task_laws.specs.Tops as tops
use Rattle.task_plans.specs.declared.station.Node.{Node}
use Rattle.task_plans.specs.declared.station.OperatorPlan.{OperatorPlan}
use Rattle.task_plans.specs.declared.station.StationPlan.{StationPlan}
use Rattle.task_plans.specs.declared.station.StationPlan.TheVariants as station
use Rattle.task_plans.specs.declared.station.TaskPlan.{TaskPlan}
use Rattle.task_plans.specs.declared.tasks.Way.{Way}
use Rattle.task_plans.specs.declared.tasks.Way.TheVariants as way
use Rattle.task_plans.specs.Stations.{StandFor}
use Rattle.task_plans.specs.Tasks.{AreTasks}

-- stations, inputs before node, that stand for a partition's tree, whatever the task's first consumer is
abbrev pub AddsFor : Doing → List StationPlan → List StationPlan → Seed → Type 0
AddsFor f old new s =
    (ss : List StationPlan) × (new ≡ old ++ reverse ss) × ((c : ℕ) → StandFor f c ss (s.tree c))

-- an operator without a consumer, over this plan, which has so many stations
pub record IsOver (o : OperatorPlan) (does : Node) (p : Plan) (size : ℕ) : Type 0 where
  pub node : o.node ≡ does
  pub kinds : kinds p ≡ Some o.kinds
  pub consumer : o.consumer ≡ None
  pub sizes : o.sizes ≡ size ∷ []

abbrev pub AddsOperator : List StationPlan → List StationPlan → Node → Plan → ℕ → Type 0
AddsOperator old new does p size =
    (o : OperatorPlan) × (new ≡ old ++ station.Operator o ∷ []) × IsOver o does p size

abbrev pub AddsTasks : Doing → List TaskPlan → List TaskPlan → List Task → Type 0
AddsTasks f old new ts = (ps : List TaskPlan) × (new ≡ old ++ ps) × AreTasks f ps ts

-- where the batches of a stage go
abbrev pub way_of : Way → tops.Way
way_of way.Written = tops.Written
way_of (way.InTurn n) = tops.InTurn n
way_of way.ToOne = tops.ToOne

-- the stages that open in these plans, one after the other
abbrev pub tops_over : List Plan → ℕ → ℕ → List tops.Top
tops_over [] k s = []
tops_over (p ∷ ps) k s = tops.tops p k s ++ tops_over ps (k + stages_in p) (s + sources_in p)
