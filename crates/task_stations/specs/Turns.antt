-- Meaning: a task that stands for a task of trees, and a turn of it.
use Rattle.std.specs.Prelude.{ℕ, ◌+◌, ◌≡◌, ◌<◌, ◌^◌, Bool, true, false, Option, Some, None, List, [], ◌∷◌, ◌++◌, map, reverse}
use Rattle.core_frame.specs.Step.{Need, Send, Writes, Finish, Fail}
use Rattle.history_laws.specs.Histories.{Reply, Go}
use Rattle.dfx_value.specs.Items.{Cells}
use Rattle.tree_laws.specs.Operators.{Told, Op}
use Rattle.tree_laws.specs.Trees.{Tree}
use Rattle.tree_laws.specs.Tasks.{Task as Task_, Parts, Split, Turn, Goes, Waits, turn, Wait, settle}
use Rattle.task_stations.specs.declared.scan.Scan.{Scan as Scan_}
use Rattle.task_stations.specs.declared.task.Part.{Part}
use Rattle.task_stations.specs.declared.task.Exit.{Exit}
use Rattle.task_stations.specs.declared.task.Exit.TheVariants as exit
use Rattle.task_stations.specs.declared.task.Put.{Put}
use Rattle.task_stations.specs.declared.task.Put.TheVariants as put
use Rattle.task_stations.specs.declared.task.Ask.{Ask}
use Rattle.task_stations.specs.declared.task.Ask.TheVariants as ask
use Rattle.task_stations.specs.declared.task.Task.{Task}
use Rattle.task_stations.specs.Stands.{need_of, Stands, IsReady, UnlessFails}
use Rattle.task_stations.specs.Names.{is_need_named}
use Rattle.task_stations.specs.Lines.{Line, Header, Row}

abbrev pub parts_of : List Part → Parts
parts_of [] = []
parts_of (p ∷ ps) = (p.channel, p.batch.rows) ∷ parts_of ps

-- the parts that are still to be sent, of which the last is the next
abbrev pub parts_left : List Part → Parts
parts_left ps = parts_of (reverse ps)

abbrev pub ask_of : Ask → Need (List Cells)
ask_of (ask.Of n) = need_of n
ask_of (ask.Send c batch) = Send c batch.rows
ask_of ask.Writes = Writes
ask_of ask.Finish = Finish

module _ {C S : Type 0} (cuts : C → Split → ℕ → Type 0) (lines : S → Option (List Line)) (first : List Line) where
  -- the sink has what comes first and these rows; or no row was written, and of what comes first the header is still missing
  abbrev pub Wrote : S → Bool → List Cells → Type 0
  Wrote s false output = lines s ≡ Some (first ++ map Row output)
  Wrote s true output = (ls : List Line) × (lines s ≡ Some ls) × (ls ++ Header ∷ [] ≡ first) × (output ≡ [])

  abbrev pub IsExit : Exit C S → Option Split → Bool → ℕ → List Cells → Type 0
  IsExit (exit.Splits c) (Some f) header n output = cuts c f n
  IsExit (exit.Writes s) None header n output = Wrote s header output
  IsExit _ _ header n output = ⊥

  -- a batch was cut into these parts, or written
  abbrev pub Took : Exit C S → Option Split → ℕ → List Cells → List Cells → Put → Type 0
  Took e (Some f) n output rows (put.Cut parts) = (parts_of parts.items ≡ f n rows) × IsExit e (Some f) false (n + 1) output
  Took e None n output rows put.Written = IsExit e None false n (output ++ rows)
  Took e o n output rows p = ⊥

  module _ {T F : Type 0} (K : T → Op → Told → ℕ → Type 0) (L : Scan_ F → Tree → Type 0) where
    pub record IsTask (task : Task T F C S) (k : Task_) : Type 0 where
      pub tree : Stands K L task.stations.items k.tree
      pub header : task.header ≡ k.header
      pub leaving : task.leaving ≡ k.leaving
      pub parts : parts_left task.parts.items ≡ k.parts
      pub exit : IsExit task.exit k.split k.header k.batches k.output

    -- it stands for the task, and what its stations ask is read
    abbrev pub IsAsked : Task T F C S → Task_ → Type 0
    IsAsked task k = IsTask task k × IsReady task.stations.items k.tree

-- the task after it asked this; S: what it stands for now; A: and what its stations ask is read. What is written is out
-- already, and a part is handed out
abbrev pub AskedOf : (S A : Task_ → Type 0) → Task_ → Need (List Cells) → (Reply (List Cells) → Task_) → Type 0
AskedOf S A k (Fail cause) after = Unit {0}
AskedOf S A k (Send c b) after = S (after Go)
AskedOf S A k Writes after = (x : Reply (List Cells)) → S (after x)
AskedOf S A k Finish after = (x : Reply (List Cells)) → S (after x)
AskedOf S A k _ after = A k

abbrev pub TurnIs : (S A : Task_ → Type 0) → Task_ → Turn → Option Ask → Type 0
TurnIs S A k (Goes rest) None = S rest
TurnIs S A k (Waits need after) (Some a) = (ask_of a ≡ need) × AskedOf S A k need after
TurnIs S A k _ _ = ⊥

-- what stands after the reply is the task that the turn has for it
abbrev pub TurnReplied : (Task_ → Type 0) → Turn → Reply (List Cells) → Type 0
TurnReplied S (Waits need after) x = UnlessFails need (S (after x))
TurnReplied S (Goes rest) x = ⊥

-- the task settles within fewer than 2^64 turns, and this is what it needs then
pub record Settles (S A : Task_ → Type 0) (size : ℕ) (k : Task_) (a : Ask) : Type 0 where
  pub count : ℕ
  pub few : count < 2 ^ 64
  pub wait : Wait
  pub settles : settle size count k ≡ Some wait
  pub waits : turn size wait.now ≡ Waits wait.need wait.after
  pub need : ask_of a ≡ wait.need
  pub asked : TurnIs S A wait.now (turn size wait.now) (Some a)

-- a need names channels that pass r and consumers that pass h
abbrev pub is_ask_named : (ℕ → ℕ → Bool) → (ℕ → Bool) → Ask → Bool
is_ask_named r h (ask.Of m) = is_need_named r h m
is_ask_named r h _ = true

abbrev pub is_turn_named : (ℕ → ℕ → Bool) → (ℕ → Bool) → Option Ask → Bool
is_turn_named r h None = true
is_turn_named r h (Some a) = is_ask_named r h a
