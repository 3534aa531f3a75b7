-- Meaning: what holds of every state that a plan's run reaches: of its frame, its histories, and what its nodes gave.
use Rattle.std.specs.Prelude.{ℕ, ◌<◌, ◌≡◌, true, List, [], ◌∷◌, ◌++◌, map}
use Rattle.std.specs.List.{AllPass, AllByRecursion}
use Rattle.plan_props.specs.Meets.{Hashing, Meets}
use Rattle.physical_plan.specs.declared.plan.Plan.{Plan}
use Rattle.plan_shape.specs.Layout.{shape}
use Rattle.physical_plan.specs.Properties.{props, declared_of}
use Rattle.node_laws.specs.Nodes.{Stands}
use Rattle.task_shape.specs.Shape.{receives_at}
use Rattle.core_frame.specs.Frame.{channel_of}
use Rattle.core_frame.specs.Good.{IsGood}
use Rattle.history_laws.specs.Contents.{took, IsTold}
use Rattle.history_laws.specs.Reserved.{IsHeld}
use Rattle.logical_plan.specs.Items.{Cells, Item, of_rows, rows, concat}
use Rattle.logical_plan.specs.Body.{Tables}
use Rattle.tree_laws.specs.Operators.{IsFront}
use Rattle.tree_laws.specs.Trees.{Tree, Inlet, Ends, IsSubtree, poll, form, gave_of}
use Rattle.tree_laws.specs.Runs.{State}
use Rattle.content_laws.specs.SenderKinds.{is_at}
use Rattle.content_laws.specs.Whole.{past_in, tree_in}
use Rattle.plan_task_laws.specs.Trees.{Doing, Seed, partitions_of}
use Rattle.plan_task_laws.specs.Tops.{ByHash, Top, all_tops}
use Rattle.answer_laws.specs.Meant.{Phases, Tells, meaning_of, is_told}
use Rattle.finished_laws.specs.Sound.{anyhow}
use Rattle.state_laws.specs.Sites.{Site, sites_of}

-- ------------------------------------------------------------ the trees of a node

-- the rows that a tree gave so far; of a channel those that were taken
abbrev pub so_far : Tree → List Cells
so_far (Inlet g c gave unread over) = gave ++ unread
so_far t = gave_of t

-- a tree of a task, of the form of this partition's
abbrev pub IsTreeOf : State → Seed → Tree → Type 0
IsTreeOf s x t = ((u : ℕ) × IsSubtree t (tree_in s u)) × ((c : ℕ) × (form t ≡ form (x.tree c)))

-- one by one
abbrev pub AreTreesOf : State → List Seed → List Tree → Type 0
AreTreesOf s [] [] = Unit {0}
AreTreesOf s (x ∷ xs) (t ∷ ts) = IsTreeOf s x t × AreTreesOf s xs ts
AreTreesOf s _ _ = ⊥

-- what the tree gave so far is a front of this, and all of it where the tree has ended
pub record IsBegunOf (size : ℕ) (t : Tree) (x : List Item) : Type 0 where
  pub front : IsFront (of_rows (so_far t)) x
  pub all : poll size t ≡ Ends → of_rows (so_far t) ≡ x

-- one by one
abbrev pub AreBegunOf : ℕ → List Tree → List (List Item) → Type 0
AreBegunOf size [] [] = Unit {0}
AreBegunOf size (t ∷ ts) (x ∷ xs) = IsBegunOf size t x × AreBegunOf size ts xs
AreBegunOf size _ _ = ⊥

-- what a node's partitions gave so far is a front of wholes of which all that the node declares stands, and all of them where
-- they have ended; and together these tell what the node means, but for a limit, which means what it chooses from
pub record IsBegun (size : ℕ) (h : Hashing) (tables : Tables) (phases : Phases) (p : Plan) (ts : List Tree) : Type 0 where
  pub wholes : List (List Item)
  pub begun : AreBegunOf size ts wholes
  pub stand : Stands h (declared_of p) (map rows wholes)
  pub tell : is_told tables anyhow p ≡ true → Tells phases (meaning_of tables p) wholes

-- these are a node's trees
abbrev pub AreTreesAt : Doing → State → Site → List Tree → Type 0
AreTreesAt f s x ts = AreTreesOf s (partitions_of f x.plan x.stage x.source) ts

-- the node has its trees in the state's tasks; and whichever they are, what they gave so far meets what the node declares,
-- and is begun
pub record IsGoodNode (size : ℕ) (h : Hashing) (f : Doing) (tables : Tables) (phases : Phases) (s : State) (x : Site)
    : Type 0 where
  pub there : (ts : List Tree) × AreTreesAt f s x ts
  pub meets : (ts : List Tree) → AreTreesAt f s x ts → Meets h (props x.plan) (map so_far ts)
  pub begun : (ts : List Tree) → AreTreesAt f s x ts → IsBegun size h tables phases x.plan ts

-- ------------------------------------------------------------ good states

-- in a group by a hash each channel carries rows of its number alone: those that its receiver took, and those that it holds
-- while it is live
abbrev pub CarriesOwn : Doing → Plan → State → Type 0
CarriesOwn f p s = (before after : List Top) (t : Top) → all_tops p ≡ before ++ t ∷ after
    → (columns : List ℕ) (n : ℕ) → t.way ≡ ByHash columns n
    → (c u : ℕ) → c < n → receives_at (shape p) u t.stage c ≡ true
    → AllPass (is_at (f.channel columns n) c) (of_rows (concat (took t.stage c (past_in s u))))
    × ((channel_of s.run.frame t.stage c).live ≡ true
    → AllPass (is_at (f.channel columns n) c) (of_rows (concat (channel_of s.run.frame t.stage c).batches)))

-- a state of a run of the plan, where batches have so many rows at most
pub record Good (size : ℕ) (h : Hashing) (f : Doing) (tables : Tables) (phases : Phases) (p : Plan) (s : State) : Type 0 where
  -- who waits waits for room or for a batch that may come; each task is in one place, and somebody goes on; and no more
  -- is held than the limit
  pub frame : IsGood (shape p) s.run.frame
  -- each consumer holds what its task's history keeps
  pub held : IsHeld (shape p) s.run.frame s.run.pasts
  -- what a receiver took, and then what its live channel holds, is an interleaving of what was sent there
  pub told : IsTold (shape p) s.run.frame s.run.pasts
  pub own : CarriesOwn f p s
  -- what the partitions of each node gave so far meets what the node declares, and tells so far what it means
  pub nodes : AllByRecursion (IsGoodNode size h f tables phases s) (sites_of p)
