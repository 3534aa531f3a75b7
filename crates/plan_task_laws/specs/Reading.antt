-- Meaning: the channels that a tree reads and its consumers, in order; and what is asked of the operators of nodes.
use Rattle.std.specs.Prelude.{ℕ, ◌<◌, ◌≤◌, ◌≡◌, length, Bool, Option, Some, None, List, [], ◌∷◌, ◌++◌, slice_index_or}
use Rattle.physical_plan.specs.declared.plan.Plan.{Plan}
use Rattle.physical_plan.specs.declared.plan.Plan.TheOpen.{Plan-F}
use Rattle.plan_shape.specs.Layout.{Part}
use Rattle.physical_plan.specs.Numbers.{numbers_from}
use Rattle.logical_plan.specs.Items.{concat}
use Rattle.tree_laws.specs.Operators.{IsOp}
use Rattle.tree_laws.specs.Trees.{File, Tree, Nothing, Files, Inlet, Node, HasInlet}
use Rattle.tree_laws.specs.Linked.{IsLinked}
use Rattle.tree_laws.specs.Held.{IsApart}
use Rattle.plan_task_laws.specs.Trees.{Doing, reserving}

-- the tree reads these channels, by group then channel, left to right
abbrev pub Reads : Tree → List (ℕ × ℕ) → Type 0
Reads Nothing xs = xs ≡ []
Reads (Files all files gave unread) xs = xs ≡ []
Reads (Inlet g c gave unread over) xs = xs ≡ (g, c) ∷ []
Reads (Node op t d inputs) xs =
    (parts : List (List (ℕ × ℕ))) × ((i : ℕ) → Reads (inputs i) (slice_index_or parts i [])) × (xs ≡ concat parts)

abbrev pub own : Option ℕ → List ℕ
own None = []
own (Some c) = c ∷ []

-- the tree has these consumers, node before inputs, left to right
abbrev pub Reserves : Tree → List ℕ → Type 0
Reserves Nothing cs = cs ≡ []
Reserves (Files all files gave unread) cs = cs ≡ []
Reserves (Inlet g c gave unread over) cs = cs ≡ []
Reserves (Node op t d inputs) cs =
    (parts : List (List ℕ)) × ((i : ℕ) → Reserves (inputs i) (slice_index_or parts i []))
    × (cs ≡ own op.consumer ++ concat parts)

-- the leaves of the tree read these files, left to right
abbrev pub Opens : Tree → List File → Type 0
Opens Nothing fs = fs ≡ []
Opens (Files all files gave unread) fs = fs ≡ files
Opens (Inlet g c gave unread over) fs = fs ≡ []
Opens (Node op t d inputs) fs =
    (parts : List (List File)) × ((i : ℕ) → Opens (inputs i) (slice_index_or parts i [])) × (fs ≡ concat parts)

-- the tree of a layout's partition, from the next stage k and the next consumer c, where the stages below m open in
-- it: it reads the partition's channels, in order, and has its consumers, numbered from c; each is at one place; and
-- nothing was asked of it
pub record IsTreeOf (k m c : ℕ) (p : Part) (t : Tree) : Type 0 where
  pub reads : Reads t p.receives
  pub reserves : Reserves t (numbers_from c (length p.consumers))
  pub within : (g d : ℕ) → HasInlet g d t → (k ≤ g) × (g < m)
  pub apart : IsApart t
  pub linked : (size : ℕ) → IsLinked size [] t

abbrev pub consumer_by : Option Bool → ℕ → Option ℕ
consumer_by None c = None
consumer_by (Some b) c = Some c

-- each node's operator owes what an operator has to, and has the consumer that its kind of node has
pub record AreOperators (f : Doing) : Type 0 where
  pub owes : (z : Plan-F Plan) (n c : ℕ) → IsOp (f.operator z n c)
  pub consumer : (z : Plan-F Plan) (n c : ℕ) → (f.operator z n c).consumer ≡ consumer_by (reserving z) c
