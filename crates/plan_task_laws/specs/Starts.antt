-- Meaning: the tasks that a run of a plan starts with.
use Rattle.std.specs.Prelude.{ℕ, zero, suc, ◌+◌, ◌%◌, Bool, true, false, Option, Some, None, List, [], ◌∷◌, ◌++◌, length}
use Rattle.physical_plan.specs.declared.plan.Plan.{Plan}
use Rattle.plan_shape.specs.Layout.{shape}
use Rattle.history_laws.specs.Histories.{begun}
use Rattle.tree_laws.specs.Trees.{Tree}
use Rattle.tree_laws.specs.Tasks.{Split, Task}
use Rattle.tree_laws.specs.Runs.{State}
use Rattle.content_laws.specs.SenderKinds.{whole_split, hash_split}
use Rattle.plan_task_laws.specs.Trees.{Doing, Seed, partitions_of}
use Rattle.plan_task_laws.specs.Tops.{Way, Written, ByHash, InTurn, ToOne, ToOwn, Top, all_tops}

-- batch j of partition i goes to channel (i + j) mod n
abbrev pub in_turn : ℕ → ℕ → Split
in_turn zero i = λ j b. []
in_turn (suc n) i = whole_split (λ j. (i + j) % suc n)

-- how partition i's batches go to channels; without one they are written
abbrev pub split_by : Doing → Way → ℕ → Option Split
split_by f Written i = None
split_by f (ByHash columns n) i = Some (hash_split (f.channel columns n) n)
split_by f (InTurn n) i = Some (in_turn n i)
split_by f ToOne i = Some (whole_split (λ j. 0))
split_by f ToOwn i = Some (whole_split (λ j. i))

-- what is written begins with the header
abbrev pub headed : Option Split → Bool
headed None = true
headed (Some split) = false

abbrev pub starting : Option Split → Tree → Task
starting split tree =
    record { tree = tree; header = headed split; split = split; batches = 0; parts = []; leaving = false; output = [] }

-- the tasks of partitions, from the number of the first one and its first consumer
abbrev pub tasks_by : (ℕ → Option Split) → ℕ → ℕ → List Seed → List Task
tasks_by split i c [] = []
tasks_by split i c (p ∷ ps) = starting (split i) (p.tree c) ∷ tasks_by split (i + 1) (c + length p.consumers) ps

abbrev pub consumers_in : List Seed → List Bool
consumers_in [] = []
consumers_in (p ∷ ps) = p.consumers ++ consumers_in ps

-- the partitions of a stage: the next stages are those that open in it
abbrev pub seeds_of : Doing → Top → List Seed
seeds_of f t = partitions_of f t.plan (t.stage + 1) t.source

abbrev pub tasks_in : Doing → ℕ → List Top → List Task
tasks_in f c [] = []
tasks_in f c (t ∷ ts) =
    tasks_by (split_by f t.way) 0 c (seeds_of f t) ++ tasks_in f (c + length (consumers_in (seeds_of f t))) ts

-- the tasks of all stages, by stage, then partition; their consumers in that order
abbrev pub tasks_of : Doing → Plan → List Task
tasks_of f plan = tasks_in f 0 (all_tops plan)

abbrev pub start_of : Doing → Plan → ℕ → State
start_of f plan limit = record { run = begun (shape plan) limit; tasks = tasks_of f plan }
