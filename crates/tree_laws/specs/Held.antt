-- Meaning: what operators hold, counted under their consumers; and trees in which each has a consumer of its own.
use Rattle.std.specs.Prelude.{ℕ, ◌≡◌, Some, List, [], ◌∷◌, ◌++◌}
use Rattle.core_frame.specs.Step.{Need, Free}
use Rattle.history_laws.specs.Histories.{Reply, Past}
use Rattle.history_laws.specs.Reserved.{kept}
use Rattle.logical_plan.specs.Items.{Cells}
use Rattle.tree_laws.specs.Trees.{Tree, Node, Poll, Gives, Ends, Moves, Asks, Form, NodeForm, form, FormReads, FormReserves}
use Rattle.tree_laws.specs.Tasks.{Wait}

-- no channel is read twice, and no two operators have one consumer
abbrev pub FormApart : Form → Type 0
FormApart (NodeForm op inputs) =
    ((i j g c : ℕ) → FormReads g c (inputs i) → FormReads g c (inputs j) → i ≡ j)
    × ((i j c : ℕ) → FormReserves c (inputs i) → FormReserves c (inputs j) → i ≡ j)
    × ((i c : ℕ) → op.consumer ≡ Some c → FormReserves c (inputs i) → ⊥)
    × ((i : ℕ) → FormApart (inputs i))
FormApart _ = Unit {0}

abbrev pub IsApart : Tree → Type 0
IsApart t = FormApart (form t)

-- each operator holds what is counted as held under its consumer, where it has one
abbrev pub IsHolding : (ℕ → ℕ) → Tree → Type 0
IsHolding held (Node op t d inputs) =
    ((c : ℕ) → op.consumer ≡ Some c → d.held ≡ held c)
    × ((i : ℕ) → IsHolding held (inputs i))
IsHolding held _ = Unit {0}

-- what is given back is all that is held
abbrev pub FreesAll : (ℕ → ℕ) → Need (List Cells) → Type 0
FreesAll held (Free c bytes) = bytes ≡ held c
FreesAll held _ = Unit {0}

-- what this history says of each consumer
abbrev pub kept_in : Past (List Cells) → ℕ → ℕ
kept_in past c = kept c past

-- whatever a need is answered, the operators hold what the history says that is longer by it
abbrev pub KeepsHeld : Past (List Cells) → Poll → Type 0
KeepsHeld past (Gives rows rest) = IsHolding (kept_in past) rest
KeepsHeld past Ends = Unit {0}
KeepsHeld past (Moves rest) = IsHolding (kept_in past) rest
KeepsHeld past (Asks need after) =
    FreesAll (kept_in past) need
    × ((x : Reply (List Cells)) → IsHolding (kept_in (past ++ (need, x) ∷ [])) (after x))

-- and so do those of a task that waits
pub record WaitHolds (past : Past (List Cells)) (w : Wait) : Type 0 where
  pub now : IsHolding (kept_in past) w.now.tree
  pub frees : FreesAll (kept_in past) w.need
  pub after : (x : Reply (List Cells)) → IsHolding (kept_in (past ++ (w.need, x) ∷ [])) (w.after x).tree
