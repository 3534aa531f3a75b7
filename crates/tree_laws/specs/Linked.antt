-- Meaning: a tree that agrees with its task's history, and what it would give of whole channels.
use Rattle.std.specs.Prelude.{ℕ, ◌≡◌, ◌==◌, true, if◌then◌else◌, List, [], ◌∷◌, ◌++◌}
use Rattle.core_frame.specs.Step.{Need, Recv, Send, Grow, Free, Writes, Finish}
use Rattle.history_laws.specs.Histories.{Reply, Past}
use Rattle.history_laws.specs.Contents.{took, has_end}
use Rattle.logical_plan.specs.Items.{Cells, Item, of_rows, concat}
use Rattle.tree_laws.specs.Operators.{Told, IsSplit, Op, IsFront, Reads, IsOp}
use Rattle.tree_laws.specs.Trees.{Desk, in_files, Tree, Nothing, Files, Inlet, Node, Poll, Gives, Ends, Moves, Asks, poll, gave_of, form, HasInlet, HasConsumer}

-- the rows of input i that wait to be taken
abbrev pub waiting : Op → Told → Desk → ℕ → List Cells
waiting op t d i = if i == op.wanted t then d.offered else []

-- an operator over its inputs: it gave a front of what it has determined, and took what they gave but for the rows that wait; an input
-- of whose end it was told has ended, with all taken; and no channel is read by two inputs
pub record IsDesk (size : ℕ) (op : Op) (t : Told) (d : Desk) (inputs : ℕ → Tree) : Type 0 where
  pub is_op : IsOp op
  pub split : IsSplit t
  pub front : IsFront (of_rows d.gave) (op.items t)
  pub taken : (i : ℕ) → gave_of (inputs i) ≡ t.taken i ++ waiting op t d i
  pub ended : (i : ℕ) → t.ended i ≡ true → (poll size (inputs i) ≡ Ends) × (gave_of (inputs i) ≡ t.taken i)
  pub apart : (i j g c : ℕ) → HasInlet g c (inputs i) → HasInlet g c (inputs j) → i ≡ j

-- the tree agrees with the history: a scan's rows are those of its files, a channel's are those that were received, and so on up
abbrev pub IsLinked : ℕ → Past (List Cells) → Tree → Type 0
IsLinked size past Nothing = Unit {0}
IsLinked size past (Files all files gave unread) = of_rows gave ++ (of_rows unread ++ in_files files) ≡ all
IsLinked size past (Inlet g c gave unread over) = (gave ++ unread ≡ concat (took g c past)) × (over ≡ true → has_end g c past ≡ true)
IsLinked size past (Node op t d inputs) = IsDesk size op t d inputs × ((i : ℕ) → IsLinked size past (inputs i))

-- ------------------------------------------------------------ what a poll keeps

-- a need of a tree names no channel and no consumer but its own, and neither sends, nor writes, nor finishes
abbrev pub Asked : Tree → Need (List Cells) → Type 0
Asked t (Recv g c) = HasInlet g c t
Asked t (Grow c bytes) = HasConsumer c t
Asked t (Free c bytes) = HasConsumer c t
Asked t (Send c b) = ⊥
Asked t Writes = ⊥
Asked t Finish = ⊥
Asked t _ = Unit {0}

-- the tree after it gave these rows: it agrees with the history, and is of the same form
pub record IsAfter (size : ℕ) (past : Past (List Cells)) (old : Tree) (rows : List Cells) (new : Tree) : Type 0 where
  pub linked : IsLinked size past new
  pub gave : gave_of new ≡ gave_of old ++ rows
  pub same : form new ≡ form old

-- whatever a need is answered, the tree agrees with the history that is longer by it
abbrev pub Keeps : ℕ → Past (List Cells) → Tree → Poll → Type 0
Keeps size past t (Gives rows rest) = IsAfter size past t rows rest
Keeps size past t Ends = Unit {0}
Keeps size past t (Moves rest) = IsAfter size past t [] rest
Keeps size past t (Asks need after) = Asked t need × ((x : Reply (List Cells)) → IsAfter size (past ++ (need, x) ∷ []) t [] (after x))

-- ------------------------------------------------------------ whole channels

-- what the tree would give of whole channels
abbrev pub whole : (ℕ → ℕ → List Item) → Tree → List Item
whole full Nothing = []
whole full (Files all files gave unread) = all
whole full (Inlet g c gave unread over) = full g c
whole full (Node op t d inputs) = op.whole t (λ i. whole full (inputs i))

-- whole contents of the tree's channels, of which what was received is read
abbrev pub IsFlow : Past (List Cells) → (ℕ → ℕ → List Item) → Tree → Type 0
IsFlow past full t = (g c : ℕ) → HasInlet g c t → Reads (concat (took g c past)) (has_end g c past) (full g c)

-- what the tree gave is a front of that, and all of it where it ends
pub record IsWhole (size : ℕ) (full : ℕ → ℕ → List Item) (t : Tree) : Type 0 where
  pub front : IsFront (of_rows (gave_of t)) (whole full t)
  pub all : poll size t ≡ Ends → of_rows (gave_of t) ≡ whole full t
