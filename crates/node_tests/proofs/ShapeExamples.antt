-- Worked examples of the tasks of plans, by computing: their stages, who sends to whom, and who consumes memory.
use Rattle.std.specs.Prelude.{ℕ, Bool, true, false, List, [], ◌∷◌, Option, Some, None}
use Rattle.std.proofs.Common.{◌≡◌, ap}
use Rattle.dfx_value.specs.declared.op.JoinKind.TheVariants as kind
use Rattle.task_shape.specs.Shape.{TaskShape, Shape}
use Rattle.physical_plan.specs.declared.plan.Plan.{Plan}
use Rattle.physical_plan.specs.declared.plan.Plan.TheVariants as plan
use Rattle.plan_shape.specs.declared.counting.StageTask.{StageTask}
use Rattle.plan_shape.specs.Layout.{Part, Stage, bare, layout, shape, stages, stages_of, tasks_by_stage}
use Rattle.plan_shape.proofs.Nodes.{layout_nodes}
use Rattle.node_tests.proofs.PlansByHand.{scan, ones, sort, merge, first_phase, second_phase, join, union, hashed, dealt, limit}

-- groups in order, of one file for two partitions
abbrev grouping : Plan
grouping = merge (sort (second_phase (hashed (first_phase (dealt (scan 0 1) 2) (0 ∷ [])) (0 ∷ []) 2) (0 ∷ [])) (0 ∷ [])) (0 ∷ [])

-- a join of one file and of three
abbrev joined : Plan
joined = plan.Coalesce (join kind.Full (hashed (scan 0 1) (0 ∷ []) 2) (hashed (scan 1 3) (0 ∷ []) 2) 0 0)

-- a union of two files and of three, to one partition, below a limit
abbrev limited : Plan
limited = limit (plan.Coalesce (union (ones (scan 0 2) 0) (ones (scan 0 3) 0)))

-- the stage, the channels of its group that it sends to, the groups and channels that it receives from, and its consumers
abbrev task : ℕ → List ℕ → List (ℕ × ℕ) → List ℕ → TaskShape
task s targets receives consumers = record { stage = s; sends = Some s; targets = targets; receives = receives; consumers = consumers }

-- that of the root sends to none
abbrev root : List (ℕ × ℕ) → TaskShape
root receives = record { stage = 0; sends = None; targets = []; receives = receives; consumers = [] }

abbrev both : List ℕ
both = 0 ∷ 1 ∷ []

of_a_grouping : shape grouping ≡ record {
  tasks = root ((1, 0) ∷ (1, 1) ∷ []) ∷
      task 1 (0 ∷ []) ((2, 0) ∷ []) (0 ∷ 1 ∷ []) ∷ task 1 (1 ∷ []) ((2, 1) ∷ []) (2 ∷ 3 ∷ []) ∷
      task 2 both ((3, 0) ∷ []) (4 ∷ []) ∷ task 2 both ((3, 1) ∷ []) (5 ∷ []) ∷
      task 3 both [] [] ∷ [];
  widths = 0 ∷ 2 ∷ 2 ∷ 2 ∷ [];
  spillable = true ∷ false ∷ true ∷ false ∷ true ∷ true ∷ [];
}
unfolding shape
of_a_grouping = simp (layout_nodes)

of_a_join : shape joined ≡ record {
  tasks = root ((1, 0) ∷ []) ∷
      task 1 (0 ∷ []) ((2, 0) ∷ (3, 0) ∷ []) (0 ∷ []) ∷ task 1 (0 ∷ []) ((2, 1) ∷ (3, 1) ∷ []) (1 ∷ []) ∷
      task 2 both [] [] ∷ task 3 both [] [] ∷ task 3 both [] [] ∷ task 3 both [] [] ∷ [];
  widths = 0 ∷ 1 ∷ 2 ∷ 2 ∷ [];
  spillable = false ∷ false ∷ [];
}
unfolding shape
of_a_join = simp (layout_nodes)

-- stages with partitions
abbrev at : ℕ → ℕ → StageTask
at stage partition = record { stage = stage; partition = partition }

-- parts that receive from a channel, and consumers of each
abbrev part : ℕ → ℕ → List Bool → Part
part group channel consumers = record { receives = (group, channel) ∷ []; consumers = consumers }

abbrev opens : List Part → List (List ℕ) → ℕ → Stage
opens parts targets width = record { parts = parts; targets = targets; width = width }

grouping_laid : layout grouping 1 ≡ record {
  parts = record { receives = (1, 0) ∷ (1, 1) ∷ []; consumers = [] } ∷ [];
  stages =
      opens (part 2 0 (true ∷ false ∷ []) ∷ part 2 1 (true ∷ false ∷ []) ∷ []) ((0 ∷ []) ∷ (1 ∷ []) ∷ []) 2 ∷
      opens (part 3 0 (true ∷ []) ∷ part 3 1 (true ∷ []) ∷ []) (both ∷ both ∷ []) 2 ∷
      opens (bare ∷ []) (both ∷ []) 2 ∷ [];
}
grouping_laid = simp (layout_nodes)

stages_of_a_grouping : stages grouping ≡ at 0 0 ∷ at 1 0 ∷ at 1 1 ∷ at 2 0 ∷ at 2 1 ∷ at 3 0 ∷ []
unfolding stages
stages_of_a_grouping = ap (λ l. tasks_by_stage 0 (stages_of l)) grouping_laid

limited_laid : layout limited 1 ≡ record {
  parts = part 1 0 [] ∷ [];
  stages = opens (bare ∷ bare ∷ bare ∷ bare ∷ bare ∷ []) ((0 ∷ []) ∷ (0 ∷ []) ∷ (0 ∷ []) ∷ (0 ∷ []) ∷ (0 ∷ []) ∷ []) 1 ∷ [];
}
limited_laid = simp (layout_nodes)

stages_of_a_union : stages limited ≡ at 0 0 ∷ at 1 0 ∷ at 1 1 ∷ at 1 2 ∷ at 1 3 ∷ at 1 4 ∷ []
unfolding stages
stages_of_a_union = ap (λ l. tasks_by_stage 0 (stages_of l)) limited_laid
