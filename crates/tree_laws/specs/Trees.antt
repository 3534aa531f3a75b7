-- Meaning: the operators of one task as a tree, and what it answers when it is asked for a batch.
use Rattle.std.specs.Prelude.{ℕ, ◌+◌, ◌≡◌, ◌⊎◌, ◌==◌, nat_lt, Bool, true, false, if◌then◌else◌, Option, Some, None, List, [], ◌∷◌, ◌++◌, length, take, drop}
use Rattle.dfx_value.specs.declared.fault.ItemFault.{ItemFault}
use Rattle.dfx_value.specs.declared.fault.ItemFault.TheVariants as fault
use Rattle.run_journal.specs.declared.cause.Cause.{Cause}
use Rattle.run_journal.specs.declared.cause.Cause.TheVariants as cause
use Rattle.core_frame.specs.Step.{Need, Scan, Recv, Grow, Free, Fail}
use Rattle.history_laws.specs.Histories.{Reply, Go, Batch, Ended, Refused}
use Rattle.logical_plan.specs.Items.{Cells, Item}
use Rattle.tree_laws.specs.Operators.{rows_in, first_fault, Told, with_rows, with_end, with_flush, Op}

-- what an operator gave, rows of its wanted input that wait to be taken, whether their reservation was refused, and what it holds
pub record Desk : Type 0 where
  pub gave : List Cells
  pub offered : List Cells
  pub refused : Bool
  pub held : ℕ

-- a file of a scan: the number of its source, and its items
pub record File : Type 0 where
  pub source : ℕ
  pub items : List Item

-- the items of files, end to end
abbrev pub in_files : List File → List Item
in_files [] = []
in_files (file ∷ files) = file.items ++ in_files files

pub data Tree : Type 0 where
  -- where no input has this number
  Nothing : Tree
  -- a scan: all its items, its files as far as they aren't read, the rows that it gave, and those that it read
  Files : (all : List Item) (files : List File) (gave unread : List Cells) → Tree
  -- a channel: the rows that it gave, those of the last batch, and whether it has ended
  Inlet : (group channel : ℕ) (gave unread : List Cells) (over : Bool) → Tree
  Node : (op : Op) (told : Told) (desk : Desk) (inputs : ℕ → Tree) → Tree

-- what a tree answers when it is asked for a batch
pub data Poll : Type 0 where
  Gives : (rows : List Cells) (rest : Tree) → Poll
  Ends : Poll
  -- a step that asks nobody
  Moves : (rest : Tree) → Poll
  -- a need of the task, and the tree after each reply
  Asks : (need : Need (List Cells)) (after : Reply (List Cells) → Tree) → Poll

abbrev pub gave_of : Tree → List Cells
gave_of Nothing = []
gave_of (Files all files gave unread) = gave
gave_of (Inlet g c gave unread over) = gave
gave_of (Node op t d inputs) = d.gave

-- why a run fails at this fault, met while source s is read
abbrev pub cause_at : ℕ → ItemFault → Cause
cause_at s (fault.Evaluation f) = cause.Evaluation f
cause_at s (fault.Csv table file number row column) = cause.Csv s number row column
cause_at s (fault.Arrow table file number batch column place) = cause.Arrow s number batch column place

-- ------------------------------------------------------------ the leaves

-- fewer than `size` items end the file
abbrev pub files_after : ℕ → File → List File → List File
files_after size file files = if nat_lt (length file.items) size then files else record file { items = drop size file.items } ∷ files

abbrev pub scanned : ℕ → List Item → File → List File → List Cells → Option ItemFault → Poll
scanned size all file files gave None = Asks Scan (λ _. Files all (files_after size file files) gave (rows_in (take size file.items)))
scanned size all file files gave (Some f) = Asks (Fail (cause_at file.source f)) (λ _. Files all (file ∷ files) gave [])

abbrev pub files_poll : ℕ → List Item → List File → List Cells → List Cells → Poll
files_poll size all files gave (x ∷ xs) = Gives (x ∷ xs) (Files all files (gave ++ x ∷ xs) [])
files_poll size all [] gave [] = Ends
files_poll size all (file ∷ files) gave [] = scanned size all file files gave (first_fault (take size file.items))

abbrev pub inlet_after : ℕ → ℕ → List Cells → Reply (List Cells) → Tree
inlet_after g c gave (Batch rows) = Inlet g c gave rows false
inlet_after g c gave Ended = Inlet g c gave [] true
inlet_after g c gave _ = Inlet g c gave [] false

abbrev pub inlet_poll : ℕ → ℕ → List Cells → List Cells → Bool → Poll
inlet_poll g c gave (x ∷ xs) over = Gives (x ∷ xs) (Inlet g c (gave ++ x ∷ xs) [] over)
inlet_poll g c gave [] true = Ends
inlet_poll g c gave [] false = Asks (Recv g c) (inlet_after g c gave)

-- ------------------------------------------------------------ operators

abbrev pub with_gave : Desk → List Cells → Desk
with_gave d rows = record d { gave = d.gave ++ rows }

abbrev pub with_offered : Desk → List Cells → Desk
with_offered d rows = record d { offered = rows }

abbrev pub holding : Desk → Bool → ℕ → Desk
holding d refused held = record d { refused = refused; held = held }

-- the inputs with another tree at this place
abbrev pub with_input : (ℕ → Tree) → ℕ → Tree → ℕ → Tree
with_input inputs i tree j = if j == i then tree else inputs j

-- items are left: a cut of them is given, or its first fault ends the run
abbrev pub cut_poll : Op → Told → Desk → (ℕ → Tree) → List Item → Option ItemFault → Poll
cut_poll op t d inputs cut None = Gives (rows_in cut) (Node op t (with_gave d (rows_in cut)) inputs)
cut_poll op t d inputs cut (Some f) = Asks (Fail (cause_at 0 f)) (λ _. Node op t d inputs)

-- the rows that wait are taken, with so much more reserved
abbrev pub taken : Op → Told → Desk → (ℕ → Tree) → ℕ → Tree
taken op t d inputs more = Node op (with_rows t (op.wanted t) d.offered) (holding (with_offered d []) false (d.held + more)) inputs

abbrev pub grown : Op → Told → Desk → (ℕ → Tree) → ℕ → Reply (List Cells) → Tree
grown op t d inputs more Go = taken op t d inputs more
grown op t d inputs more Refused = Node op (with_flush t) (holding d true d.held) inputs
grown op t d inputs more _ = Node op t d inputs

abbrev pub freed : Op → Told → Desk → (ℕ → Tree) → Reply (List Cells) → Tree
freed op t d inputs Go = Node op t (holding d false 0) inputs
freed op t d inputs _ = Node op t d inputs

-- what the rows that wait must reserve: only those of input 0 do
abbrev pub amount_of : Op → Told → List Cells → ℕ
amount_of op t rows = if op.wanted t == 0 then op.amount t rows else 0

-- rows wait: after a refusal all that is held is given back first; then they are reserved, where that is some bytes, and taken
abbrev pub offer_poll : Op → Told → Desk → (ℕ → Tree) → Option ℕ → ℕ → Bool → Bool → Poll
offer_poll op t d inputs None amount refused none = Moves (taken op t d inputs 0)
offer_poll op t d inputs (Some c) amount true none = Asks (Free c d.held) (freed op t d inputs)
offer_poll op t d inputs (Some c) amount false true = Moves (taken op t d inputs 0)
offer_poll op t d inputs (Some c) amount false false = Asks (Grow c amount) (grown op t d inputs amount)

-- the wanted input i is asked, and answered this
abbrev pub input_poll : Op → Told → Desk → (ℕ → Tree) → ℕ → Poll → Poll
input_poll op t d inputs i (Gives rows rest) = Moves (Node op t (with_offered d rows) (with_input inputs i rest))
input_poll op t d inputs i Ends = Moves (Node op (with_end t i) d inputs)
input_poll op t d inputs i (Moves rest) = Moves (Node op t d (with_input inputs i rest))
input_poll op t d inputs i (Asks need after) = Asks need (λ x. Node op t d (with_input inputs i (after x)))

-- no items are left: the output is complete, or rows wait, or the wanted input is asked
abbrev pub idle_poll : Op → Told → Desk → (ℕ → Tree) → Bool → List Cells → Poll → Poll
idle_poll op t d inputs true waiting asked = Ends
idle_poll op t d inputs false (x ∷ xs) asked = offer_poll op t d inputs op.consumer (amount_of op t d.offered) d.refused (amount_of op t d.offered == 0)
idle_poll op t d inputs false [] asked = input_poll op t d inputs (op.wanted t) asked

abbrev pub node_poll : ℕ → Op → Told → Desk → (ℕ → Tree) → List Item → Poll → Poll
node_poll size op t d inputs [] asked = idle_poll op t d inputs (op.is_complete t) d.offered asked
node_poll size op t d inputs (x ∷ xs) asked = cut_poll op t d inputs (take size (x ∷ xs)) (first_fault (take size (x ∷ xs)))

-- one step towards a batch of at most `size` rows
abbrev pub poll : ℕ → Tree → Poll
poll size Nothing = Ends
poll size (Files all files gave unread) = files_poll size all files gave unread
poll size (Inlet g c gave unread over) = inlet_poll g c gave unread over
poll size (Node op t d inputs) = node_poll size op t d inputs (drop (length d.gave) (op.items t)) (poll size (inputs (op.wanted t)))

-- ------------------------------------------------------------ trees in a tree

-- x is the tree itself, or it stands in one of its inputs
abbrev pub IsSubtree : Tree → Tree → Type 0
IsSubtree x (Node op t d inputs) = (x ≡ Node op t d inputs) ⊎ ((i : ℕ) × IsSubtree x (inputs i))
IsSubtree x t = x ≡ t

-- ------------------------------------------------------------ what no step changes

pub data Form : Type 0 where
  NoForm : Form
  FilesForm : (all : List Item) → Form
  InletForm : (group channel : ℕ) → Form
  NodeForm : (op : Op) (inputs : ℕ → Form) → Form

abbrev pub form : Tree → Form
form Nothing = NoForm
form (Files all files gave unread) = FilesForm all
form (Inlet g c gave unread over) = InletForm g c
form (Node op t d inputs) = NodeForm op (λ i. form (inputs i))

-- the channel is read somewhere in the tree
abbrev pub FormReads : ℕ → ℕ → Form → Type 0
FormReads g c NoForm = ⊥
FormReads g c (FilesForm all) = ⊥
FormReads g c (InletForm a d) = (a ≡ g) × (d ≡ c)
FormReads g c (NodeForm op inputs) = (i : ℕ) × FormReads g c (inputs i)

abbrev pub HasInlet : ℕ → ℕ → Tree → Type 0
HasInlet g c t = FormReads g c (form t)

-- the consumer is that of some operator in the tree
abbrev pub FormReserves : ℕ → Form → Type 0
FormReserves c NoForm = ⊥
FormReserves c (FilesForm all) = ⊥
FormReserves c (InletForm a d) = ⊥
FormReserves c (NodeForm op inputs) = (op.consumer ≡ Some c) ⊎ ((i : ℕ) × FormReserves c (inputs i))

abbrev pub HasConsumer : ℕ → Tree → Type 0
HasConsumer c t = FormReserves c (form t)
