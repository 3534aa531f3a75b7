-- Meaning: lists of tasks, as plans have them, that stand for the tasks of a start.
use Rattle.std.specs.Prelude.{◌≡◌, Option, Some, None, List, [], ◌∷◌}
use Rattle.content_laws.specs.SenderKinds.{whole_split, hash_split}
use Rattle.tree_laws.specs.Trees.{Tree}
use Rattle.tree_laws.specs.Tasks.{Split, Task}
use Rattle.plan_task_laws.specs.Trees.{Doing}
use Rattle.plan_task_laws.specs.Starts.{in_turn, starting}
use Rattle.task_plans.specs.declared.station.Sending.{Sending}
use Rattle.task_plans.specs.declared.station.Sending.TheVariants.{Written, ByHash, InTurn, One}
use Rattle.task_plans.specs.declared.station.TaskPlan.{TaskPlan}
use Rattle.task_plans.specs.Stations.{StandFor}

-- how batches go to channels; without a way they are written
abbrev pub split_of : Doing → Sending → Option Split
split_of f Written = None
split_of f (ByHash columns n) = Some (hash_split (f.channel columns n) n)
split_of f (InTurn i n) = Some (in_turn n i)
split_of f (One c) = Some (whole_split (λ j. c))

-- a task that starts with the tree for which these stations stand, and sends so
pub record IsTask (f : Doing) (p : TaskPlan) (t : Task) : Type 0 where
  pub tree : Tree
  pub stands : StandFor f p.consumer p.stations tree
  pub is : t ≡ starting (split_of f p.sending) tree

abbrev pub AreTasks : Doing → List TaskPlan → List Task → Type 0
AreTasks f [] [] = Unit {0}
AreTasks f (p ∷ ps) (t ∷ ts) = IsTask f p t × AreTasks f ps ts
AreTasks f _ _ = ⊥
