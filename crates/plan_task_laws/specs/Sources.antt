-- Meaning: the files of a plan's scans, by their sources, and which task reads each.
use Rattle.std.specs.Prelude.{ℕ, ◌+◌, nat_lt, Bool, ◌&&◌, List, [], ◌∷◌, ◌++◌, map}
use Rattle.physical_plan.specs.Everywhere.{all_true}
use Rattle.physical_plan.specs.declared.plan.Plan.{Plan}
use Rattle.physical_plan.specs.declared.plan.Plan.TheOpen.{Plan-F}
use Rattle.physical_plan.specs.declared.plan.Plan.TheFolds.{fold-Plan, para-Plan}
use Rattle.physical_plan.specs.Numbers.{numbers}
use Rattle.logical_plan.specs.Items.{Item}
use Rattle.tree_laws.specs.Trees.{File}
use Rattle.plan_task_laws.specs.Trees.{Doing, Seed, sources_in}
use Rattle.plan_task_laws.specs.Tops.{Top}
use Rattle.plan_task_laws.specs.Starts.{seeds_of}

-- from the number of the next source
abbrev pub Filing : Type 0
Filing = ℕ → List File

abbrev pub filed_after : List (Plan × Filing) → Filing
filed_after [] s = []
filed_after (p ∷ ps) s = p.1 s ++ filed_after ps (s + sources_in p.0)

abbrev pub file_node : Doing → Plan-F (Plan × Filing) → Filing
file_node f (Plan-F.Scan table kinds files partitions) s =
    map (λ (x : ℕ). record { source = s + x; items = f.items table x }) (numbers files)
file_node f (Plan-F.Filter input test) s = input.1 s
file_node f (Plan-F.Project input items) s = input.1 s
file_node f (Plan-F.PartialGroup input keys calls) s = input.1 s
file_node f (Plan-F.FinalGroup input keys calls) s = input.1 s
file_node f (Plan-F.HashJoin kind left right keys rest) s = left.1 s ++ right.1 (s + sources_in left.0)
file_node f (Plan-F.Sort input keys) s = input.1 s
file_node f (Plan-F.Merge input keys) s = input.1 s
file_node f (Plan-F.Coalesce input) s = input.1 s
file_node f (Plan-F.Repartition input to) s = input.1 s
file_node f (Plan-F.UnionAll inputs) s = filed_after inputs s
file_node f (Plan-F.Limit input skip fetch) s = input.1 s

-- the files of a plan's scans in plan order, each with its source
unfoldable pub files_of : Doing → Plan → Filing
files_of f = para-Plan Filing (file_node f)

abbrev pub seed_files : List Seed → List File
seed_files [] = []
seed_files (p ∷ ps) = p.files ++ seed_files ps

-- the files that the tasks of these stages read, task by task
abbrev pub files_in : Doing → List Top → List File
files_in f [] = []
files_in f (t ∷ ts) = seed_files (seeds_of f t) ++ files_in f ts

abbrev pub reads_node : Plan-F Bool → Bool
reads_node (Plan-F.Scan table kinds files partitions) = nat_lt 0 partitions
reads_node (Plan-F.Filter input test) = input
reads_node (Plan-F.Project input items) = input
reads_node (Plan-F.PartialGroup input keys calls) = input
reads_node (Plan-F.FinalGroup input keys calls) = input
reads_node (Plan-F.HashJoin kind left right keys rest) = left && right
reads_node (Plan-F.Sort input keys) = input
reads_node (Plan-F.Merge input keys) = input
reads_node (Plan-F.Coalesce input) = input
reads_node (Plan-F.Repartition input to) = input
reads_node (Plan-F.UnionAll inputs) = all_true inputs
reads_node (Plan-F.Limit input skip fetch) = input

-- each scan has a partition
unfoldable pub reads_all : Plan → Bool
reads_all = fold-Plan Bool reads_node

-- ------------------------------------------------------------ which file a source is

-- end to end
abbrev pub joined_places : List (List (ℕ × ℕ)) → List (ℕ × ℕ)
joined_places [] = []
joined_places (x ∷ xs) = x ++ joined_places xs

abbrev pub place_node : Plan-F (List (ℕ × ℕ)) → List (ℕ × ℕ)
place_node (Plan-F.Scan table kinds files partitions) = map (λ (x : ℕ). (table, x)) (numbers files)
place_node (Plan-F.Filter input test) = input
place_node (Plan-F.Project input items) = input
place_node (Plan-F.PartialGroup input keys calls) = input
place_node (Plan-F.FinalGroup input keys calls) = input
place_node (Plan-F.HashJoin kind left right keys rest) = left ++ right
place_node (Plan-F.Sort input keys) = input
place_node (Plan-F.Merge input keys) = input
place_node (Plan-F.Coalesce input) = input
place_node (Plan-F.Repartition input to) = input
place_node (Plan-F.UnionAll inputs) = joined_places inputs
place_node (Plan-F.Limit input skip fetch) = input

-- the table of each source, and the number among that table's files, in plan order
unfoldable pub places_of : Plan → List (ℕ × ℕ)
places_of = fold-Plan (List (ℕ × ℕ)) place_node

abbrev pub items_at : Doing → ℕ × ℕ → List Item
items_at f x = f.items x.0 x.1
