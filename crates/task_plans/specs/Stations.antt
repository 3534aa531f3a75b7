-- Meaning: lists of stations that stand for trees of which nothing was asked yet.
use Rattle.std.specs.Prelude.{ℕ, zero, suc, ◌+◌, ◌≡◌, Bool, Option, Some, List, [], ◌∷◌, length, map, take, drop, sum, option_map}
use Rattle.dfx_value.specs.declared.kind.Kind.{Kind}
use Rattle.physical_plan.specs.declared.plan.Plan.{Plan}
use Rattle.physical_plan.specs.declared.plan.Plan.TheOpen.{Plan-F}
use Rattle.plan_kinds.specs.Kinds.{kinds}
use Rattle.tree_laws.specs.Operators.{Told, Op}
use Rattle.tree_laws.specs.Trees.{Desk, File, Tree, Nothing, Files, Inlet, Node}
use Rattle.plan_task_laws.specs.Trees.{Doing, reserving, untold, idle, inlet, scan}
use Rattle.task_plans.specs.declared.station.ScanFile.{ScanFile}
use Rattle.task_plans.specs.declared.station.Node.{Node as Node_}
use Rattle.task_plans.specs.declared.station.Node.TheVariants.{Filter, Project}
use Rattle.task_plans.specs.declared.station.OperatorPlan.{OperatorPlan}
use Rattle.task_plans.specs.declared.station.StationPlan.{StationPlan}
use Rattle.task_plans.specs.declared.station.StationPlan.TheVariants as station

-- ---- one station

-- the file of a table, with its items
abbrev pub file_of : Doing → ℕ → ScanFile → File
file_of f table x = record { source = x.source; items = f.items table x.number }

-- what an operator does is what the plan's node does, whose input has columns of these kinds
abbrev pub DoesAs : Node_ → List Kind → Plan-F Plan → Type 0
DoesAs (Filter test) ks (Plan-F.Filter p t) = (t ≡ test) × (kinds p ≡ Some ks)
DoesAs (Project items) ks (Plan-F.Project p es) = (es ≡ items) × (kinds p ≡ Some ks)
DoesAs _ ks z = ⊥

-- an operator of a task whose first consumer is c: that of a node over so many inputs, with the consumer that is next
-- when the node's turn comes, just where its kind of node has one
pub record IsOperator (f : Doing) (c : ℕ) (o : OperatorPlan) (op : Op) : Type 0 where
  pub of : Plan-F Plan
  pub next : ℕ
  pub does : DoesAs o.node o.kinds of
  pub is : op ≡ f.operator of (length o.sizes) (c + next)
  pub consumer : o.consumer ≡ option_map (λ (spillable : Bool). next) (reserving of)

-- ---- the stations of a tree: node before inputs

-- the stations of input i, of those below an operator, by how many each input has
abbrev pub piece : {A : Type 0} → List ℕ → List A → ℕ → List A
piece [] xs i = []
piece (n ∷ ns) xs zero = take n xs
piece (n ∷ ns) xs (suc i) = piece ns (drop n xs) i

abbrev pub below : List StationPlan → ℕ → List StationPlan
below (station.Operator o ∷ ss) i = piece o.sizes ss i
below _ i = []

-- the first is this operator, and the others are those of its inputs
abbrev pub FirstIsOperator : Doing → ℕ → List StationPlan → Op → Type 0
FirstIsOperator f c (station.Operator o ∷ ss) op = IsOperator f c o op × (length ss ≡ sum o.sizes)
FirstIsOperator f c _ op = ⊥

-- one station alone, which is this scan or channel
abbrev pub IsLeaf : Doing → List StationPlan → Tree → Type 0
IsLeaf f (station.Scan table files ∷ []) t = t ≡ scan (map (file_of f table) files)
IsLeaf f (station.Inlet g c ∷ []) t = t ≡ inlet g c
IsLeaf f _ t = ⊥

-- the stations stand for the tree, in a task whose first consumer is c
abbrev pub StandFor : Doing → ℕ → List StationPlan → Tree → Type 0
StandFor f c ss Nothing = ss ≡ []
StandFor f c ss (Files all files gave unread) = IsLeaf f ss (Files all files gave unread)
StandFor f c ss (Inlet g n gave unread over) = IsLeaf f ss (Inlet g n gave unread over)
StandFor f c ss (Node op t d inputs) =
    FirstIsOperator f c ss op × (t ≡ untold) × (d ≡ idle) × ((i : ℕ) → StandFor f c (below ss i) (inputs i))
