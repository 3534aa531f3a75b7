-- What holds of a tree's agreement with its history holds of each tree in it.
use Rattle.std.proofs.Common.{ℕ, inl, inr, sym, subst, List}
use Rattle.history_laws.specs.Histories.{Past}
use Rattle.logical_plan.specs.Items.{Cells, Item}
use Rattle.tree_laws.specs.Trees.{Tree, Nothing, Files, Inlet, Node, IsSubtree, HasInlet}
use Rattle.tree_laws.specs.Linked.{IsLinked, IsFlow, IsWhole}
use Rattle.tree_laws.proofs.Wholes.{whole_of}

pub linked_inside : (size : ℕ) (past : Past (List Cells)) (x t : Tree) → IsLinked size past t → IsSubtree x t → IsLinked size past x
linked_inside size past x Nothing k e = subst (IsLinked size past) (sym e) k
linked_inside size past x (Files all files gave unread) k e = subst (IsLinked size past) (sym e) k
linked_inside size past x (Inlet g c gave unread over) k e = subst (IsLinked size past) (sym e) k
linked_inside size past x (Node op t d inputs) k (inl e) = subst (IsLinked size past) (sym e) k
linked_inside size past x (Node op t d inputs) k (inr e) = linked_inside size past x (inputs e.0) (k.1 e.0) e.1

-- a tree's channels are those of the tree that it stands in
pub inlet_inside : (g c : ℕ) (x t : Tree) → IsSubtree x t → HasInlet g c x → HasInlet g c t
inlet_inside g c x Nothing e h = subst (HasInlet g c) e h
inlet_inside g c x (Files all files gave unread) e h = subst (HasInlet g c) e h
inlet_inside g c x (Inlet a d gave unread over) e h = subst (HasInlet g c) e h
inlet_inside g c x (Node op t d inputs) (inl e) h = subst (HasInlet g c) e h
inlet_inside g c x (Node op t d inputs) (inr e) h = (e.0, inlet_inside g c x (inputs e.0) e.1 h)

pub fronts_inside : (size : ℕ) (past : Past (List Cells)) (full : ℕ → ℕ → List Item) (x t : Tree) → IsLinked size past t → IsFlow past full t → IsSubtree x t → IsWhole size full x
fronts_inside size past full x t k flow e = whole_of size past full x (linked_inside size past x t k e) (λ g c h. flow g c (inlet_inside g c x t e h))
