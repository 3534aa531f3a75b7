-- Meaning: which tasks are those of a stage.
use Rattle.std.specs.Prelude.{ℕ, zero, suc, ◌+◌, ◌<◌, ◌≡◌, Bool, false, List, [], ◌∷◌, ◌++◌, length, slice_index_or}
use Rattle.physical_plan.specs.declared.plan.Plan.{Plan}
use Rattle.plan_shape.specs.Layout.{shape, group_of}
use Rattle.task_shape.specs.Shape.{task_at}
use Rattle.tree_laws.specs.Trees.{Nothing}
use Rattle.tree_laws.specs.Runs.{the_task}
use Rattle.logical_plan.specs.Items.{Cells}
use Rattle.content_laws.specs.Senders.{Deal}
use Rattle.content_laws.specs.SenderKinds.{home_deal, hash_deal}
use Rattle.plan_task_laws.specs.Trees.{Doing, Seed, leaf, tree_of}
use Rattle.plan_task_laws.specs.Tops.{Way, Written, ByHash, InTurn, ToOne, ToOwn, Top, all_tops, targets_by}
use Rattle.plan_task_laws.specs.Starts.{split_by, starting, consumers_in, seeds_of, tasks_of}

-- how many tasks these stages have
abbrev pub tasks_before : Doing → List Top → ℕ
tasks_before f [] = 0
tasks_before f (t ∷ ts) = length (seeds_of f t) + tasks_before f ts

-- for each consumer of these stages, and of the first i of these partitions, whether it is spillable, task by task
abbrev pub consumers_over : Doing → List Top → List Bool
consumers_over f [] = []
consumers_over f (t ∷ ts) = consumers_in (seeds_of f t) ++ consumers_over f ts

abbrev pub consumers_front : ℕ → List Seed → List Bool
consumers_front zero ps = []
consumers_front (suc i) [] = []
consumers_front (suc i) (p ∷ ps) = p.consumers ++ consumers_front i ps

-- how many consumers come before partition i of a stage
abbrev pub consumers_before : Doing → List Top → Top → ℕ → ℕ
consumers_before f before t i = length (consumers_over f before) + length (consumers_front i (seeds_of f t))

abbrev pub seed_in : Doing → Top → ℕ → Seed
seed_in f t i = slice_index_or (seeds_of f t) i (leaf Nothing)

-- partition i of a stage, behind these stages: the task's tree is that of the stage's plan there, with the consumers
-- next in number, which are spillable as the partition says; and it sends as the stage does
pub record IsPlaced (f : Doing) (p : Plan) (before : List Top) (t : Top) (i : ℕ) : Type 0 where
  pub task : the_task (tasks_of f p) (tasks_before f before + i)
      ≡ starting (split_by f t.way i)
      (tree_of f t.plan (record { stage = t.stage + 1; source = t.source; consumer = consumers_before f before t i }) i)
  pub spills : (j : ℕ) → j < length (seed_in f t i).consumers
      → slice_index_or (shape p).spillable (consumers_before f before t i + j) false
      ≡ slice_index_or (seed_in f t i).consumers j false
  pub stage : (task_at (shape p) (tasks_before f before + i)).stage ≡ t.stage
  pub sends : (task_at (shape p) (tasks_before f before + i)).sends ≡ group_of t.stage
  pub targets : (task_at (shape p) (tasks_before f before + i)).targets ≡ targets_by t.way i

-- how partition i's items that aren't given yet would go
abbrev pub deal_by : Doing → Way → ℕ → Deal
deal_by f Written i = λ c xs. []
deal_by f (ByHash columns n) i = hash_deal (f.channel columns n)
deal_by f (InTurn n) i = home_deal 0
deal_by f ToOne i = home_deal 0
deal_by f ToOwn i = home_deal i

abbrev pub deals_by : (ℕ → Deal) → ℕ → List Seed → List Deal
deals_by deal i [] = []
deals_by deal i (p ∷ ps) = deal i ∷ deals_by deal (i + 1) ps

abbrev pub deals_in : Doing → List Top → List Deal
deals_in f [] = []
deals_in f (t ∷ ts) = deals_by (deal_by f t.way) 0 (seeds_of f t) ++ deals_in f ts

-- that of task u
abbrev pub deal_of : Doing → Plan → ℕ → Deal
deal_of f p u = slice_index_or (deals_in f (all_tops p)) u (λ c xs. [])

-- a hash gives one of the channels
abbrev pub IsHashing : Doing → Type 0
IsHashing f = (columns : List ℕ) (n : ℕ) (row : Cells) → 0 < n → f.channel columns n row < n

-- each exchange has a channel
abbrev pub IsOpen : Way → Type 0
IsOpen (ByHash columns n) = 0 < n
IsOpen (InTurn n) = 0 < n
IsOpen _ = Unit {0}

abbrev pub AllOpen : List Top → Type 0
AllOpen [] = Unit {0}
AllOpen (t ∷ ts) = IsOpen t.way × AllOpen ts

abbrev pub HasChannels : Plan → Type 0
HasChannels p = AllOpen (all_tops p)

-- task u is a partition of some stage
abbrev pub IsCovered : Doing → Plan → ℕ → Type 0
IsCovered f p u = (before : List Top) × (t : Top) × (after : List Top) × (i : ℕ) × (all_tops p ≡ before ++ t ∷ after)
    × (i < length (seeds_of f t)) × (u ≡ tasks_before f before + i)
