-- What trees of a state gave so far is a front of what they would give of whole channels, and all of it where they have ended.
use Rattle.std.proofs.Common.{ℕ, refl, sym, subst, List, [], ◌∷◌, map, Bool, true, false, ◌≡◌, ap, ◌∙◌, ◌++◌}
use Rattle.std.proofs.lemmas.List.{append-nil}
use Rattle.history_laws.specs.Histories.{Past}
use Rattle.logical_plan.specs.Items.{Cells, Item, of_rows}
use Rattle.tree_laws.specs.Operators.{IsFront}
use Rattle.tree_laws.specs.Trees.{Tree, Nothing, Files, Inlet, Node, IsSubtree, Form, Ends, inlet_poll}
use Rattle.tree_laws.specs.Linked.{IsLinked, IsFlow, whole}
use Rattle.tree_laws.proofs.Wholes.{whole_of}
use Rattle.tree_laws.proofs.Subtrees.{linked_inside, inlet_inside}
use Rattle.tree_laws.specs.Runs.{State}
use Rattle.content_laws.specs.Whole.{past_in, tree_in}
use Rattle.plan_task_laws.specs.Trees.{Seed}
use Rattle.answer_laws.specs.Gives.{Gives, AllGive}
use Rattle.answer_laws.proofs.Feeds.{gives}
use Rattle.state_laws.specs.Good.{AreTreesOf, IsBegunOf, AreBegunOf}

module _ (size : ℕ) (past : Past (List Cells)) (full : ℕ → ℕ → List Item) where
  -- a tree that stands in a linked one, whose channels are read, is linked, and so are its own
  within : (t u : Tree) → IsSubtree t u → IsLinked size past u → IsFlow past full u → IsLinked size past t × IsFlow past full t
  within t u e l w = (linked_inside size past t u l e, λ g c h. w g c (inlet_inside g c t u e h))

  pub begun : (t : Tree) → IsLinked size past t → IsFlow past full t → IsBegunOf size t (whole full t)
  begun Nothing l w = (let o = whole_of size past full Nothing l w in record { front = o.front; all = o.all })
  begun (Files all files gave unread) l w = (let o = whole_of size past full (Files all files gave unread) l w in record { front = o.front; all = o.all })
  begun (Inlet g c gave unread over) l w = record {
    front = subst (λ rows. IsFront (of_rows rows) (full g c)) (sym l.0) (w g c (refl, refl)).front;
    all = ended unread over (whole_of size past full (Inlet g c gave unread over) l w).all;
  }
    where
      ended : (unread : List Cells) (over : Bool) → (inlet_poll g c gave unread over ≡ Ends → of_rows gave ≡ full g c) → inlet_poll g c gave unread over ≡ Ends → of_rows (gave ++ unread) ≡ full g c
      ended (x ∷ xs) over h e = cc
      ended [] true h e = ap of_rows (append-nil gave) ∙ h e
      ended [] false h e = cc
  begun (Node op told desk inputs) l w = (let o = whole_of size past full (Node op told desk inputs) l w in record { front = o.front; all = o.all })

module _ (size : ℕ) (full : ℕ → ℕ → List Item) (s : State) (linked : (u : ℕ) → IsLinked size (past_in s u) (tree_in s u)) (flow : (u : ℕ) → IsFlow (past_in s u) full (tree_in s u)) where
  pub wholes_given : (ss : List Seed) (ts : List Tree) → AreTreesOf s ss ts → AllGive full ss (map (whole full) ts)
  wholes_given [] [] h = tt
  wholes_given [] (t ∷ ts) h = absurd h
  wholes_given (x ∷ ss) [] h = absurd h
  wholes_given (x ∷ ss) (t ∷ ts) h =
      let u = h.0.0.0 in
      let k = within size (past_in s u) full t (tree_in s u) h.0.0.1 (linked u) (flow u) in
      ((h.0.1.0, subst (λ (y : Form). Gives full y (whole full t)) h.0.1.1 (gives size (past_in s u) full t k.0 k.1)), wholes_given ss ts h.1)

  pub all_begun : (ss : List Seed) (ts : List Tree) → AreTreesOf s ss ts → AreBegunOf size ts (map (whole full) ts)
  all_begun [] [] h = tt
  all_begun [] (t ∷ ts) h = absurd h
  all_begun (x ∷ ss) [] h = absurd h
  all_begun (x ∷ ss) (t ∷ ts) h =
      let u = h.0.0.0 in
      let k = within size (past_in s u) full t (tree_in s u) h.0.0.1 (linked u) (flow u) in
      (begun size (past_in s u) full t k.0 k.1, all_begun ss ts h.1)
