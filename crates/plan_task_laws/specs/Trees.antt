-- Meaning: the tree of each partition of a plan.
use Rattle.std.specs.Prelude.{ℕ, ◌+◌, ◌%◌, ◌==◌, Bool, true, false, Option, Some, None, List, [], ◌∷◌, ◌++◌, length, map, slice_index_or}
use Rattle.std.specs.List.{filter}
use Rattle.plan_props.specs.Satisfies.{partition_count}
use Rattle.physical_plan.specs.declared.plan.Plan.{Plan}
use Rattle.physical_plan.specs.declared.plan.Plan.TheOpen.{Plan-F}
use Rattle.physical_plan.specs.declared.plan.Plan.TheFolds.{fold-Plan, para-Plan}
use Rattle.physical_plan.specs.Numbers.{numbers}
use Rattle.logical_plan.specs.Items.{Cells, Item}
use Rattle.tree_laws.specs.Operators.{Told, Op}
use Rattle.tree_laws.specs.Trees.{Desk, File, in_files, Tree, Nothing, Files, Inlet, Node}

-- what the nodes of plans do: the operator of a node, which sees its inputs' plans, over so many inputs in the tree,
-- with the number of its consumer; the channel of a row by a hash of columns, of so many channels; and the items of a
-- table's file
pub record Doing : Type 0 where
  pub operator : Plan-F Plan → ℕ → ℕ → Op
  pub channel : List ℕ → ℕ → Cells → ℕ
  pub items : ℕ → ℕ → List Item

-- whether a node's operator has a consumer, and whether that is spillable
abbrev pub reserving : {A : Type 0} → Plan-F A → Option Bool
reserving (Plan-F.PartialGroup input keys calls) = Some true
reserving (Plan-F.FinalGroup input keys calls) = Some false
reserving (Plan-F.HashJoin kind left right keys rest) = Some false
reserving (Plan-F.Sort input keys) = Some true
reserving _ = None

-- ------------------------------------------------------------ stages and sources of a plan

abbrev pub sum_all : List ℕ → ℕ
sum_all [] = 0
sum_all (n ∷ ns) = n + sum_all ns

abbrev pub count_stages : Plan-F ℕ → ℕ
count_stages (Plan-F.Scan table kinds files partitions) = 0
count_stages (Plan-F.Filter input test) = input
count_stages (Plan-F.Project input items) = input
count_stages (Plan-F.PartialGroup input keys calls) = input
count_stages (Plan-F.FinalGroup input keys calls) = input
count_stages (Plan-F.HashJoin kind left right keys rest) = left + right
count_stages (Plan-F.Sort input keys) = input
count_stages (Plan-F.Merge input keys) = input + 1
count_stages (Plan-F.Coalesce input) = input + 1
count_stages (Plan-F.Repartition input to) = input + 1
count_stages (Plan-F.UnionAll inputs) = sum_all inputs
count_stages (Plan-F.Limit input skip fetch) = input

-- how many stages open in a plan
unfoldable pub stages_in : Plan → ℕ
stages_in = fold-Plan ℕ count_stages

abbrev pub count_sources : Plan-F ℕ → ℕ
count_sources (Plan-F.Scan table kinds files partitions) = files
count_sources (Plan-F.Filter input test) = input
count_sources (Plan-F.Project input items) = input
count_sources (Plan-F.PartialGroup input keys calls) = input
count_sources (Plan-F.FinalGroup input keys calls) = input
count_sources (Plan-F.HashJoin kind left right keys rest) = left + right
count_sources (Plan-F.Sort input keys) = input
count_sources (Plan-F.Merge input keys) = input
count_sources (Plan-F.Coalesce input) = input
count_sources (Plan-F.Repartition input to) = input
count_sources (Plan-F.UnionAll inputs) = sum_all inputs
count_sources (Plan-F.Limit input skip fetch) = input

-- how many files its scans have
unfoldable pub sources_in : Plan → ℕ
sources_in = fold-Plan ℕ count_sources

-- ------------------------------------------------------------ trees that nothing was asked of

abbrev pub untold : Told
untold = record { taken = λ i. []; closed = []; since = []; ended = λ i. false }

abbrev pub idle : Desk
idle = record { gave = []; offered = []; refused = false; held = 0 }

-- an operator over these inputs
abbrev pub node : Op → List Tree → Tree
node op inputs = Node op untold idle (λ i. slice_index_or inputs i Nothing)

abbrev pub inlet : ℕ → ℕ → Tree
inlet g c = Inlet g c [] [] false

abbrev pub scan : List File → Tree
scan files = Files (in_files files) files [] []

-- ------------------------------------------------------------ the partitions of a plan

-- a partition: the files that its leaves read; for each of its consumers whether it is spillable, node before inputs;
-- and its tree, by the number of the first of them
pub record Seed : Type 0 where
  pub files : List File
  pub consumers : List Bool
  pub tree : ℕ → Tree

-- without an operator of its own
abbrev pub leaf : Tree → Seed
leaf t = record { files = []; consumers = []; tree = λ c. t }

-- under an operator that reserves nothing
abbrev pub passing : (ℕ → Op) → Seed → Seed
passing op s = record { files = s.files; consumers = s.consumers; tree = λ c. node (op c) (s.tree c ∷ []) }

-- under an operator with a consumer
abbrev pub holding : Bool → (ℕ → Op) → Seed → Seed
holding b op s = record { files = s.files; consumers = b ∷ s.consumers; tree = λ c. node (op c) (s.tree (c + 1) ∷ []) }

-- two inputs under an operator with a consumer
abbrev pub pairing : (ℕ → Op) → Seed → Seed → Seed
pairing op l r =
    record {
      files = l.files ++ r.files;
      consumers = false ∷ (l.consumers ++ r.consumers);
      tree = λ c. node (op c) (l.tree (c + 1) ∷ r.tree (c + 1 + length l.consumers) ∷ []);
    }

-- partition by partition; what is left over stands beside nothing
abbrev pub paired : (ℕ → Op) → List Seed → List Seed → List Seed
paired op [] rs = map (λ (r : Seed). pairing op (leaf Nothing) r) rs
paired op (l ∷ ls) [] = pairing op l (leaf Nothing) ∷ paired op ls []
paired op (l ∷ ls) (r ∷ rs) = pairing op l r ∷ paired op ls rs

-- the files of partition i of n, from the number of the first file's source
abbrev pub dealt_files : (ℕ → List Item) → ℕ → ℕ → ℕ → ℕ → List File
dealt_files items source files n i =
    map (λ (f : ℕ). record { source = source + f; items = items f }) (filter (λ (f : ℕ). f % n == i) (numbers files))

abbrev pub scanning : List File → Seed
scanning files = record { files = files; consumers = []; tree = λ c. scan files }

abbrev pub scans : (ℕ → List Item) → ℕ → ℕ → ℕ → List Seed
scans items source files n = map (λ (i : ℕ). scanning (dealt_files items source files n i)) (numbers n)

-- the channels of a group, one by one, and all in one
abbrev pub inlets : ℕ → ℕ → List Seed
inlets g n = map (λ (c : ℕ). leaf (inlet g c)) (numbers n)

abbrev pub merged : (ℕ → ℕ → Op) → ℕ → ℕ → Seed
merged op g n =
    record { files = []; consumers = []; tree = λ c. node (op n c) (map (λ (d : ℕ). inlet g d) (numbers n)) }

-- from the number of the next stage that opens, and that of the next source
abbrev pub Growing : Type 0
Growing = ℕ → ℕ → List Seed

-- the inputs of a union, end to end
abbrev pub grown_after : List (Plan × Growing) → Growing
grown_after [] k s = []
grown_after (p ∷ ps) k s = p.1 k s ++ grown_after ps (k + stages_in p.0) (s + sources_in p.0)

abbrev pub grow : Doing → Plan-F (Plan × Growing) → Growing
grow f (Plan-F.Scan table kinds files partitions) k s = scans (f.items table) s files partitions
grow f (Plan-F.Filter input test) k s = map (passing (f.operator (Plan-F.Filter input.0 test) 1)) (input.1 k s)
grow f (Plan-F.Project input items) k s = map (passing (f.operator (Plan-F.Project input.0 items) 1)) (input.1 k s)
grow f (Plan-F.PartialGroup input keys calls) k s =
    map (holding true (f.operator (Plan-F.PartialGroup input.0 keys calls) 1)) (input.1 k s)
grow f (Plan-F.FinalGroup input keys calls) k s =
    map (holding false (f.operator (Plan-F.FinalGroup input.0 keys calls) 1)) (input.1 k s)
grow f (Plan-F.HashJoin kind left right keys rest) k s =
    paired (f.operator (Plan-F.HashJoin kind left.0 right.0 keys rest) 2) (left.1 k s)
    (right.1 (k + stages_in left.0) (s + sources_in left.0))
grow f (Plan-F.Sort input keys) k s = map (holding true (f.operator (Plan-F.Sort input.0 keys) 1)) (input.1 k s)
grow f (Plan-F.Merge input keys) k s =
    merged (f.operator (Plan-F.Merge input.0 keys)) k (length (input.1 (k + 1) s)) ∷ []
grow f (Plan-F.Coalesce input) k s = inlets k 1
grow f (Plan-F.Repartition input to) k s = inlets k (partition_count to)
grow f (Plan-F.UnionAll inputs) k s = grown_after inputs k s
grow f (Plan-F.Limit input skip fetch) k s =
    map (passing (f.operator (Plan-F.Limit input.0 skip fetch) 1)) (input.1 k s)

-- the partitions of a plan
unfoldable pub partitions_of : Doing → Plan → Growing
partitions_of f = para-Plan Growing (grow f)

-- where a tree's numbers begin: the next stage, the next source, and its task's next consumer
pub record At : Type 0 where
  pub stage : ℕ
  pub source : ℕ
  pub consumer : ℕ

-- the tree of partition i
abbrev pub tree_of : Doing → Plan → At → ℕ → Tree
tree_of f plan at i = (slice_index_or (partitions_of f plan at.stage at.source) i (leaf Nothing)).tree at.consumer
