-- Meaning: tasks: what the top operator gives is written, or cut into parts and sent; and the one next need.
use Rattle.std.specs.Prelude.{ℕ, zero, suc, ◌+◌, ◌≡◌, ◌⊎◌, Bool, true, false, ◌||◌, Option, Some, None, List, [], ◌∷◌, ◌++◌, length}
use Rattle.core_frame.specs.Step.{Need, Recv, Send, Grow, Free, Writes, Finish}
use Rattle.history_laws.specs.Histories.{Reply, Go, Gone, Past}
use Rattle.history_laws.specs.Contents.{gone}
use Rattle.logical_plan.specs.Items.{Cells, concat}
use Rattle.tree_laws.specs.Trees.{Tree, Poll, Gives, Ends, Moves, Asks, poll, gave_of, form, HasInlet, HasConsumer}
use Rattle.tree_laws.specs.Linked.{IsLinked}

-- parts of a batch, each with its channel
abbrev pub Parts : Type 0
Parts = List (ℕ × List Cells)

-- the parts of a task's batch with this number
abbrev pub Split : Type 0
Split = ℕ → List Cells → Parts

pub record Task : Type 0 where
  pub tree : Tree
  pub header : Bool  -- the header is still to be written
  pub split : Option Split  -- how its batches go to channels; without one it writes them
  pub batches : ℕ  -- how many it has cut into parts
  pub parts : Parts  -- those that are still to be sent
  pub leaving : Bool  -- it was told that no channel of its group is live
  pub output : List Cells  -- the rows that it wrote

-- what a task does next: a step by itself, or a need, with the task after each reply
pub data Turn : Type 0 where
  Goes : (rest : Task) → Turn
  Waits : (need : Need (List Cells)) (after : Reply (List Cells) → Task) → Turn

abbrev pub with_tree : Task → Tree → Task
with_tree k tree = record k { tree = tree }

abbrev pub headed : Task → Task
headed k = record k { header = false }

abbrev pub written : Task → List Cells → Tree → Task
written k rows tree = record k { tree = tree; output = k.output ++ rows }

abbrev pub cut_up : Task → Split → List Cells → Tree → Task
cut_up k split rows tree = record k { tree = tree; batches = k.batches + 1; parts = split k.batches rows }

abbrev pub with_parts : Task → Parts → Bool → Task
with_parts k parts leaving = record k { parts = parts; leaving = leaving }

-- the first part was sent, or refused
abbrev pub after_send : Task → ℕ × List Cells → Parts → Reply (List Cells) → Task
after_send k x xs Go = with_parts k xs k.leaving
after_send k x xs (Gone last) = with_parts k xs (k.leaving || last)
after_send k x xs _ = with_parts k (x ∷ xs) k.leaving

abbrev pub top_turn : Task → Option Split → Poll → Turn
top_turn k None (Gives rows rest) = Waits Writes (λ _. written k rows rest)
top_turn k (Some split) (Gives rows rest) = Goes (cut_up k split rows rest)
top_turn k o Ends = Waits Finish (λ _. k)
top_turn k o (Moves rest) = Goes (with_tree k rest)
top_turn k o (Asks need after) = Waits need (λ x. with_tree k (after x))

-- first the header; a task that leaves finishes; then the parts that wait, by their order; then the top operator is asked
abbrev pub turn_by : ℕ → Task → Bool → Bool → Parts → Turn
turn_by size k true leaving parts = Waits Writes (λ _. headed k)
turn_by size k false true parts = Waits Finish (λ _. k)
turn_by size k false false (x ∷ xs) = Waits (Send x.0 x.1) (after_send k x xs)
turn_by size k false false [] = top_turn k k.split (poll size k.tree)

abbrev pub turn : ℕ → Task → Turn
turn size k = turn_by size k k.header k.leaving k.parts

-- the task that waits, its one next need, and the task after each reply
pub record Wait : Type 0 where
  pub now : Task
  pub need : Need (List Cells)
  pub after : Reply (List Cells) → Task

abbrev pub settled : Task → Turn → (Task → Option Wait) → Option Wait
settled k (Goes rest) go = go rest
settled k (Waits need after) go = Some (record { now = k; need = need; after = after })

-- the next need, after all that the task does by itself, which is fewer than this many steps
abbrev pub settle : ℕ → ℕ → Task → Option Wait
settle size zero k = None
settle size (suc steps) k = settled k (turn size k) (settle size steps)

-- ------------------------------------------------------------ what a task keeps

abbrev pub handled_one : Need (List Cells) → Reply (List Cells) → Parts
handled_one (Send c b) Go = (c, b) ∷ []
handled_one (Send c b) (Gone last) = (c, b) ∷ []
handled_one _ _ = []

-- the parts that were sent or refused, in order
abbrev pub handled : Past (List Cells) → Parts
handled [] = []
handled (s ∷ h) = handled_one s.0 s.1 ++ handled h

-- the parts of these batches, which are numbered from k
abbrev pub all_parts : Split → ℕ → List (List Cells) → Parts
all_parts split k [] = []
all_parts split k (b ∷ bs) = split k b ++ all_parts split (k + 1) bs

-- what a task gave, in batches, and these in parts: first those that were handled, then those that wait
pub record IsCut (past : Past (List Cells)) (k : Task) (split : Split) : Type 0 where
  pub cuts : List (List Cells)
  pub rows : concat cuts ≡ gave_of k.tree
  pub count : length cuts ≡ k.batches
  pub parts : handled past ++ k.parts ≡ all_parts split 0 cuts

abbrev pub IsOut : Past (List Cells) → Task → Option Split → Type 0
IsOut past k None = (k.output ≡ gave_of k.tree) × (k.parts ≡ []) × (k.leaving ≡ false)
IsOut past k (Some split) = IsCut past k split

-- the task agrees with its history; and it leaves only where all channels of its group are gone
pub record IsTask (size : ℕ) (past : Past (List Cells)) (k : Task) : Type 0 where
  pub linked : IsLinked size past k.tree
  pub out : IsOut past k k.split
  pub left : k.leaving ≡ true → (c : ℕ) → gone c past ≡ true

-- its parts are handled and its tree ends
abbrev pub IsEnded : ℕ → Task → Type 0
IsEnded size k = (k.parts ≡ []) × (poll size k.tree ≡ Ends)

-- a task that finishes has ended, or nobody takes more of it
abbrev pub IsLast : ℕ → Task → Type 0
IsLast size k = (k.leaving ≡ true) ⊎ IsEnded size k

-- what the need tells of the task
abbrev pub Tells : ℕ → Task → Need (List Cells) → Type 0
Tells size k (Recv g c) = HasInlet g c k.tree
Tells size k (Grow c bytes) = HasConsumer c k.tree
Tells size k (Free c bytes) = HasConsumer c k.tree
Tells size k (Send c b) = (rest : Parts) × (k.parts ≡ (c, b) ∷ rest)
Tells size k Finish = IsLast size k
Tells size k _ = Unit {0}

-- the task after a step or a reply: it agrees with the history, and is built as it was
pub record IsNext (size : ℕ) (past : Past (List Cells)) (old new : Task) : Type 0 where
  pub task : IsTask size past new
  pub split : new.split ≡ old.split
  pub same : form new.tree ≡ form old.tree

-- whatever its need is answered, the task agrees with the history that is longer by it
pub record IsWait (size : ℕ) (past : Past (List Cells)) (k : Task) (w : Wait) : Type 0 where
  pub before : IsNext size past k w.now
  pub tells : Tells size w.now w.need
  pub after : (x : Reply (List Cells)) → IsNext size (past ++ (w.need, x) ∷ []) w.now (w.after x)
