-- Meaning: stations that stand for a tree, and a step that is one poll of it.
use Rattle.std.specs.Prelude.{ℕ, zero, suc, ◌≡◌, false, List, [], ◌∷◌, length, take, drop, IsSome}
use Rattle.core_frame.specs.Step.{Need, Scan, Recv, Grow, Free, Fail}
use Rattle.history_laws.specs.Histories.{Reply, Go, Batch, Ended, Refused, Gone}
use Rattle.dfx_value.specs.Items.{Cells}
use Rattle.tree_laws.specs.Operators.{Told, with_end, Op}
use Rattle.tree_laws.specs.Trees.{Desk, Tree, Nothing, Files, Inlet, Node, Poll, Gives, Ends, Moves, Asks, with_offered}
use Rattle.task_stations.specs.Slots.{rows_of}
use Rattle.task_stations.specs.declared.seat.Seat.{Seat}
use Rattle.task_stations.specs.declared.seat.Own.{Own}
use Rattle.task_stations.specs.declared.seat.Own.TheVariants as own
use Rattle.task_stations.specs.declared.station.Inlet.{Inlet as Leaf_}
use Rattle.task_stations.specs.declared.station.Station.{Station}
use Rattle.task_stations.specs.declared.scan.Scan.{Scan as Scan_}
use Rattle.task_stations.specs.declared.station.Station.TheVariants.{Leaf, Scans, Inner}
use Rattle.task_stations.specs.declared.needs.Need.{Need as Need_}
use Rattle.task_stations.specs.declared.needs.Need.TheVariants as need
use Rattle.task_stations.specs.declared.needs.Answer.{Answer}
use Rattle.task_stations.specs.declared.needs.Answer.TheVariants as answer
use Rattle.task_stations.specs.declared.needs.Step.{Step}
use Rattle.task_stations.specs.declared.needs.Step.TheVariants as step

abbrev pub need_of : Need_ → Need (List Cells)
need_of need.Scan = Scan
need_of (need.Recv g c) = Recv g c
need_of (need.Grow c bytes) = Grow c bytes
need_of (need.Free c bytes) = Free c bytes
need_of (need.Fail cause) = Fail cause

abbrev pub reply_of : Answer → Reply (List Cells)
reply_of answer.Go = Go
reply_of (answer.Batch batch) = Batch batch.rows
reply_of answer.Ended = Ended
reply_of answer.Refused = Refused

-- ------------------------------------------------------------ stations

-- the operator stands for this, with these rows waiting
pub record IsSeat {T : Type 0} (K : T → Op → Told → ℕ → Type 0) (seat : Seat T) (op : Op) (t : Told) (d : Desk) : Type 0 where
  pub stands : K seat.operator op t (length d.gave)
  pub waiting : rows_of seat.waiting ≡ d.offered
  pub refused : seat.refused ≡ d.refused
  pub held : seat.held ≡ d.held
  pub consumer : seat.consumer ≡ op.consumer

-- the operator's part of a tree over these inputs
abbrev pub IsSeatOf : {T : Type 0} → (T → Op → Told → ℕ → Type 0) → Seat T → (ℕ → Tree) → Tree → Type 0
IsSeatOf K seat inputs (Node op t d inputs2) = IsSeat K seat op t d × (inputs2 ≡ inputs)
IsSeatOf K seat inputs _ = ⊥

-- its rows wait
abbrev pub IsSeatAsking : {T : Type 0} → (T → Op → Told → ℕ → Type 0) → Seat T → (ℕ → Tree) → Tree → Type 0
IsSeatAsking K seat inputs (Node op t d inputs2) = IsSeat K seat op t d × (inputs2 ≡ inputs) × ¬ (d.offered ≡ [])
IsSeatAsking K seat inputs _ = ⊥

abbrev pub IsInlet : Leaf_ → Tree → Type 0
IsInlet l (Inlet g c gave unread over) = (l.group ≡ g) × (l.channel ≡ c) × (rows_of l.unread ≡ unread) × (l.over ≡ over)
IsInlet l _ = ⊥

-- the stations of input i, of those below an operator, by how many each input has
abbrev pub piece : {A : Type 0} → List ℕ → List A → ℕ → List A
piece [] xs i = []
piece (n ∷ ns) xs zero = take n xs
piece (n ∷ ns) xs (suc i) = piece ns (drop n xs) i

abbrev pub below : {T F : Type 0} → List (Station T F) → ℕ → List (Station T F)
below [] i = []
below (Leaf l ∷ ss) i = []
below (Scans s ∷ ss) i = []
below (Inner seat ∷ ss) i = piece seat.sizes.items ss i

abbrev pub FirstIsInlet : {T F : Type 0} → List (Station T F) → Tree → Type 0
FirstIsInlet (Leaf l ∷ ss) t = IsInlet l t
FirstIsInlet _ t = ⊥

-- L: what a scan stands for
abbrev pub FirstIsScan : {T F : Type 0} → (Scan_ F → Tree → Type 0) → List (Station T F) → Tree → Type 0
FirstIsScan L (Scans s ∷ ss) t = L s t
FirstIsScan L _ t = ⊥

abbrev pub FirstIsReady : {T F : Type 0} → List (Station T F) → Type 0
FirstIsReady (Scans s ∷ ss) = IsSome s.ready
FirstIsReady _ = ⊥

abbrev pub FirstIsSeat : {T F : Type 0} → (T → Op → Told → ℕ → Type 0) → List (Station T F) → Op → Told → Desk → Type 0
FirstIsSeat K (Inner seat ∷ ss) op t d = IsSeat K seat op t d
FirstIsSeat K _ op t d = ⊥

-- the stations stand for the tree: node before inputs
abbrev pub Stands : {T F : Type 0} → (T → Op → Told → ℕ → Type 0) → (Scan_ F → Tree → Type 0) → List (Station T F) → Tree → Type 0
Stands K L ss Nothing = ss ≡ []
Stands K L ss (Files all files gave unread) = FirstIsScan L ss (Files all files gave unread)
Stands K L ss (Inlet g c gave unread over) = FirstIsInlet ss (Inlet g c gave unread over)
Stands K L ss (Node op t d inputs) = FirstIsSeat K ss op t d × ((i : ℕ) → Stands K L (below ss i) (inputs i))

-- the station that asks is no scan, or one that has read its batch: down along the wanted inputs, as far as no rows wait
abbrev pub IsReady : {T F : Type 0} → List (Station T F) → Tree → Type 0
IsReady ss Nothing = Unit {0}
IsReady ss (Files all files gave unread) = FirstIsReady ss
IsReady ss (Inlet g c gave unread over) = Unit {0}
IsReady ss (Node op t d inputs) = d.offered ≡ [] → IsReady (below ss (op.wanted t)) (inputs (op.wanted t))

-- the stations stand for the tree, and what they ask is read
abbrev pub Asked : {T F : Type 0} → (T → Op → Told → ℕ → Type 0) → (Scan_ F → Tree → Type 0) → List (Station T F) → Tree → Type 0
Asked K L ss t = Stands K L ss t × IsReady ss t

-- ------------------------------------------------------------ steps

abbrev pub UnlessFails : Need (List Cells) → Type 0 → Type 0
UnlessFails (Fail cause) S = Unit {0}
UnlessFails _ S = S

-- a step is this poll of the tree; S: what the stations stand for after it; A: and where they ask
abbrev pub StepIs : (S A : Tree → Type 0) → Tree → Poll → Step → Type 0
StepIs S A t (Gives rows rest) (step.Gives batch) = (batch.rows ≡ rows) × S rest
StepIs S A t Ends step.Ends = S t
StepIs S A t (Moves rest) step.Moves = S rest
StepIs S A t (Asks n after) (step.Asks need) = (need_of need ≡ n) × UnlessFails n (A t)
StepIs S A t _ _ = ⊥

-- the operator has nothing to do by itself, and wants this input
abbrev pub IsIdle : Tree → ℕ → Type 0
IsIdle (Node op t d inputs) i = (drop (length d.gave) (op.items t) ≡ []) × (op.is_complete t ≡ false) × (d.offered ≡ []) × (i ≡ op.wanted t)
IsIdle _ i = ⊥

abbrev pub OwnIs : (S A : Tree → Type 0) → Tree → Poll → Own → Type 0
OwnIs S A t p (own.Done s) = StepIs S A t p s
OwnIs S A t p (own.Wants i) = S t × IsIdle t i

-- what the wanted input answered is handed to the operator
abbrev pub HandedIs : {T : Type 0} → (T → Op → Told → ℕ → Type 0) → Op → Told → Desk → Seat T → Step → Step → Type 0
HandedIs K op t d seat (step.Gives batch) step.Moves = IsSeat K seat op t (with_offered d batch.rows)
HandedIs K op t d seat step.Ends step.Moves = IsSeat K seat op (with_end t (op.wanted t)) d
HandedIs K op t d seat step.Moves step.Moves = IsSeat K seat op t d
HandedIs K op t d seat (step.Asks n) (step.Asks m) = (m ≡ n) × IsSeat K seat op t d
HandedIs K op t d seat _ _ = ⊥

-- ------------------------------------------------------------ replies

-- the bytes that the need asks for
abbrev pub bytes_asked : Need (List Cells) → ℕ
bytes_asked (Grow c bytes) = bytes
bytes_asked _ = 0

-- where this was the need, what stands after the reply is the tree that the poll has for it
abbrev pub Replied : (Tree → Type 0) → Need (List Cells) → Poll → Reply (List Cells) → Type 0
Replied S m (Asks n after) x = n ≡ m → UnlessFails n (S (after x))
Replied S m _ x = Unit {0}
