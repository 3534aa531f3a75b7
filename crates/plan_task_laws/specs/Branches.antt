-- Meaning: a node's partition, from its inputs' partitions.
use Rattle.std.specs.Prelude.{ℕ, ◌+◌, ◌-◌, ◌≡◌, nat_lt, true, false, if◌then◌else◌, List, [], ◌∷◌, length, slice_index_or}
use Rattle.physical_plan.specs.declared.plan.Plan.{Plan}
use Rattle.physical_plan.specs.declared.plan.Plan.TheOpen.{Plan-F}
use Rattle.plan_shape.specs.Counts.{counts_of}
use Rattle.tree_laws.specs.Trees.{Nothing}
use Rattle.plan_task_laws.specs.Trees.{Doing, Seed, stages_in, sources_in, inlet, leaf, scanning, passing, holding, pairing, merged, dealt_files, partitions_of}

-- partition i, and how many there are
abbrev pub seed_at : Doing → Plan → ℕ → ℕ → ℕ → Seed
seed_at f plan k s i = slice_index_or (partitions_of f plan k s) i (leaf Nothing)

abbrev pub width_at : Doing → Plan → ℕ → ℕ → ℕ
width_at f plan k s = length (partitions_of f plan k s)

-- a union's partition is that of one of its inputs
abbrev pub union_at : Doing → List Plan → ℕ → ℕ → ℕ → Seed
union_at f [] k s i = leaf Nothing
union_at f (p ∷ ps) k s i =
    if nat_lt i (width_at f p k s) then seed_at f p k s i
    else union_at f ps (k + stages_in p) (s + sources_in p) (i - width_at f p k s)

abbrev pub branch : Doing → Plan-F Plan → ℕ → ℕ → ℕ → Seed
branch f (Plan-F.Scan table kinds files partitions) k s i = scanning (dealt_files (f.items table) s files partitions i)
branch f (Plan-F.Filter p test) k s i = passing (f.operator (Plan-F.Filter p test) 1) (seed_at f p k s i)
branch f (Plan-F.Project p items) k s i = passing (f.operator (Plan-F.Project p items) 1) (seed_at f p k s i)
branch f (Plan-F.PartialGroup p keys calls) k s i =
    holding true (f.operator (Plan-F.PartialGroup p keys calls) 1) (seed_at f p k s i)
branch f (Plan-F.FinalGroup p keys calls) k s i =
    holding false (f.operator (Plan-F.FinalGroup p keys calls) 1) (seed_at f p k s i)
branch f (Plan-F.HashJoin kind p q keys rest) k s i =
    pairing (f.operator (Plan-F.HashJoin kind p q keys rest) 2) (seed_at f p k s i)
    (seed_at f q (k + stages_in p) (s + sources_in p) i)
branch f (Plan-F.Sort p keys) k s i = holding true (f.operator (Plan-F.Sort p keys) 1) (seed_at f p k s i)
branch f (Plan-F.Merge p keys) k s i = merged (f.operator (Plan-F.Merge p keys)) k (width_at f p (k + 1) s)
branch f (Plan-F.Coalesce p) k s i = leaf (inlet k i)
branch f (Plan-F.Repartition p to) k s i = leaf (inlet k i)
branch f (Plan-F.UnionAll ps) k s i = union_at f ps k s i
branch f (Plan-F.Limit p skip fetch) k s i = passing (f.operator (Plan-F.Limit p skip fetch) 1) (seed_at f p k s i)

-- the inputs of a join have equally many partitions
abbrev pub IsEven : Plan-F Plan → Type 0
IsEven (Plan-F.HashJoin kind p q keys rest) = (counts_of p).parts ≡ (counts_of q).parts
IsEven _ = Unit {0}
