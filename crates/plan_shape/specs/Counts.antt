-- Words: how many partitions a plan and each of its stages have.
use Rattle.std.specs.Prelude.{ℕ, zero, suc, ◌+◌, max, List, [], ◌∷◌, ◌++◌}
use Rattle.plan_props.specs.Satisfies.{partition_count}
use Rattle.physical_plan.specs.declared.plan.Plan.{Plan}
use Rattle.physical_plan.specs.declared.plan.Plan.TheOpen.{Plan-F}
use Rattle.physical_plan.specs.declared.plan.Plan.TheFolds.{fold-Plan}
use Rattle.plan_shape.specs.declared.counting.StageTask.{StageTask}

-- the partitions of a subtree, and those of the stages that open in it
pub record Counted : Type 0 where
  pub parts : ℕ
  pub stages : List ℕ

abbrev pub counted : ℕ → List ℕ → Counted
counted n ns = record { parts = n; stages = ns }

-- the input of an exchange is a stage of its own
abbrev pub above : ℕ → Counted → Counted
above n c = counted n (c.parts ∷ c.stages)

abbrev pub both : Counted → Counted → Counted
both l r = counted (max l.parts r.parts) (l.stages ++ r.stages)

abbrev pub in_all : List Counted → Counted
in_all [] = counted 0 []
in_all (c ∷ cs) = counted (c.parts + (in_all cs).parts) (c.stages ++ (in_all cs).stages)

abbrev pub count_node : Plan-F Counted → Counted
count_node (Plan-F.Scan table kinds files partitions) = counted partitions []
count_node (Plan-F.Filter input test) = input
count_node (Plan-F.Project input items) = input
count_node (Plan-F.PartialGroup input keys calls) = input
count_node (Plan-F.FinalGroup input keys calls) = input
count_node (Plan-F.HashJoin kind left right keys rest) = both left right
count_node (Plan-F.Sort input keys) = input
count_node (Plan-F.Merge input keys) = above 1 input
count_node (Plan-F.Coalesce input) = above 1 input
count_node (Plan-F.Repartition input to) = above (partition_count to) input
count_node (Plan-F.UnionAll inputs) = in_all inputs
count_node (Plan-F.Limit input skip fetch) = input

unfoldable pub counts_of : Plan → Counted
counts_of = fold-Plan Counted count_node

-- so many tasks of a stage, from a partition on
abbrev pub places : ℕ → ℕ → ℕ → List StageTask
places s i zero = []
places s i (suc n) = record { stage = s; partition = i } ∷ places s (i + 1) n

abbrev pub places_from : ℕ → List ℕ → List StageTask
places_from s [] = []
places_from s (n ∷ ns) = places s 0 n ++ places_from (s + 1) ns
