-- A reply to a task is a reply to the task that it stands for.
use Rattle.std.proofs.Common.{ℕ, ◌≡◌, refl, sym, ap, ◌∙◌, ◌⊎◌, inl, inr, subst, List, [], ◌∷◌, length, drop, take, Bool, true, false, ◌||◌, ◌==◌, Option, Some, None}
use Rattle.core_frame.specs.Step.{Need, Scan, Recv, Send, Grow, Free, Writes, Finish, Fail}
use Rattle.history_laws.specs.Histories.{Reply, Gone}
use Rattle.dfx_value.specs.Items.{Cells, Item}
use Rattle.dfx_value.specs.declared.fault.ItemFault.{ItemFault}
use Rattle.tree_laws.specs.Operators.{Told, Op, first_fault}
use Rattle.tree_laws.specs.Trees.{File, Desk, Tree, Nothing, Files, Inlet, Node, Poll, Gives, Ends, Moves, Asks, poll, files_poll, inlet_poll, node_poll, idle_poll, offer_poll, input_poll, cut_poll, scanned, amount_of}
use Rattle.tree_laws.specs.Tasks.{Task as Task_, Parts, Split, Turn, Goes, Waits, turn, turn_by, top_turn, after_send, with_parts, with_tree}
use Rattle.task_stations.specs.declared.scan.Scan.{Scan as Scan_}
use Rattle.task_stations.specs.declared.station.Station.{Station}
use Rattle.task_stations.specs.declared.needs.Need.{Need as Need_}
use Rattle.task_stations.specs.declared.needs.Need.TheVariants as need
use Rattle.dfx_value.specs.KindedRows.{KindedRows}
use Rattle.task_stations.specs.declared.task.Exit.{Exit}
use Rattle.task_stations.specs.declared.task.Ask.TheVariants as ask
use Rattle.task_stations.specs.declared.task.Task.{Task}
use Rattle.task_stations.specs.Stands.{need_of, Stands, Asked, UnlessFails, Replied}
use Rattle.task_stations.specs.Lines.{Line}
use Rattle.task_stations.specs.Turns.{parts_left, IsExit, IsTask, IsAsked, AskedOf, TurnIs, TurnReplied}

-- ------------------------------------------------------------ a tree neither sends, nor writes, nor finishes

abbrev IsOwn : Need (List Cells) → Type 0
IsOwn (Send c b) = ⊥
IsOwn Writes = ⊥
IsOwn Finish = ⊥
IsOwn _ = Unit {0}

abbrev AsksOwn : Poll → Type 0
AsksOwn (Asks n after) = IsOwn n
AsksOwn _ = Unit {0}

scanned_own : (size : ℕ) (all : List Item) (file : File) (files : List File) (gave : List Cells) (o : Option ItemFault) → AsksOwn (scanned size all file files gave o)
scanned_own size all file files gave None = tt
scanned_own size all file files gave (Some f) = tt

files_own : (size : ℕ) (all : List Item) (files : List File) (gave unread : List Cells) → AsksOwn (files_poll size all files gave unread)
files_own size all files gave (x ∷ xs) = tt
files_own size all [] gave [] = tt
files_own size all (file ∷ files) gave [] = scanned_own size all file files gave (first_fault (take size file.items))

inlet_own : (g c : ℕ) (gave unread : List Cells) (over : Bool) → AsksOwn (inlet_poll g c gave unread over)
inlet_own g c gave (x ∷ xs) over = tt
inlet_own g c gave [] true = tt
inlet_own g c gave [] false = tt

module _ (op : Op) (t : Told) (d : Desk) (inputs : ℕ → Tree) where
  offer_own : (o : Option ℕ) (amount : ℕ) (refused none : Bool) → AsksOwn (offer_poll op t d inputs o amount refused none)
  offer_own None amount refused none = tt
  offer_own (Some c) amount true none = tt
  offer_own (Some c) amount false true = tt
  offer_own (Some c) amount false false = tt

  input_own : (i : ℕ) (p : Poll) → AsksOwn p → AsksOwn (input_poll op t d inputs i p)
  input_own i (Gives rows rest) k = tt
  input_own i Ends k = tt
  input_own i (Moves rest) k = tt
  input_own i (Asks n after) k = k

  idle_own : (c : Bool) (w : List Cells) (p : Poll) → AsksOwn p → AsksOwn (idle_poll op t d inputs c w p)
  idle_own true w p k = tt
  idle_own false (x ∷ xs) p k = offer_own op.consumer (amount_of op t d.offered) d.refused (amount_of op t d.offered == 0)
  idle_own false [] p k = input_own (op.wanted t) p k

  cut_own : (cut : List Item) (o : Option ItemFault) → AsksOwn (cut_poll op t d inputs cut o)
  cut_own cut None = tt
  cut_own cut (Some f) = tt

  node_own : (size : ℕ) (xs : List Item) (p : Poll) → AsksOwn p → AsksOwn (node_poll size op t d inputs xs p)
  node_own size [] p k = idle_own (op.is_complete t) d.offered p k
  node_own size (x ∷ xs) p k = cut_own (take size (x ∷ xs)) (first_fault (take size (x ∷ xs)))

asks_own : (size : ℕ) (t : Tree) → AsksOwn (poll size t)
asks_own size Nothing = tt
asks_own size (Files all files gave unread) = files_own size all files gave unread
asks_own size (Inlet g c gave unread over) = inlet_own g c gave unread over
asks_own size (Node op t d inputs) = node_own op t d inputs size (drop (length d.gave) (op.items t)) (poll size (inputs (op.wanted t))) (asks_own size (inputs (op.wanted t)))

-- ------------------------------------------------------------ replies

-- a part was handed out, and nobody receives it
module _ {C S : Type 0} (cuts : C → Split → ℕ → Type 0) (lines : S → Option (List Line)) (first : List Line)
    {T F : Type 0} (K : T → Op → Told → ℕ → Type 0) (L : Scan_ F → Tree → Type 0) (most : ℕ) (old new : Task T F C S) (k : Task_) where
  abbrev Was : Task_ → Type 0
  Was = IsTask cuts lines first K L old

  abbrev WasAsked : Task_ → Type 0
  WasAsked = IsAsked cuts lines first K L old

  abbrev Is : Task_ → Type 0
  Is = IsTask cuts lines first K L new

  module _ (s : new.stations.items ≡ old.stations.items) (e : new.exit ≡ old.exit) (h : new.header ≡ old.header) (p : new.parts.items ≡ old.parts.items) (last : Bool) (l : new.leaving ≡ (old.leaving || last)) where
    leaves : (ys : Parts) → Was (with_parts k ys k.leaving) → Is (with_parts k ys (k.leaving || last))
    leaves ys is = record {
      tree = (let P : List (Station T F) → Type 0 = λ z. Stands K L z k.tree in subst P (sym s) is.tree);
      header = h ∙ is.header;
      leaving = l ∙ ap (λ z. z || last) is.leaving;
      parts = ap parts_left p ∙ is.parts;
      exit = (let P : Exit C S → Type 0 = λ z. IsExit cuts lines first z k.split k.header k.batches k.output in subst P (sym e) is.exit);
    }

    module _ (c : ℕ) (batch : KindedRows) where
      top : (o : Option Split) (p : Poll) → AsksOwn p → TurnIs Was WasAsked k (top_turn k o p) (Some (ask.Send c batch)) → TurnReplied Is (top_turn k o p) (Gone last)
      top None (Gives rows rest) own s = cc
      top (Some g) (Gives rows rest) own s = absurd s
      top None Ends own s = cc
      top (Some g) Ends own s = cc
      top None (Moves rest) own s = absurd s
      top (Some g) (Moves rest) own s = absurd s
      top None (Asks n after) own s = absurd (let P : Need (List Cells) → Type 0 = IsOwn in subst P (sym s.0) own)
      top (Some g) (Asks n after) own s = absurd (let P : Need (List Cells) → Type 0 = IsOwn in subst P (sym s.0) own)

      gone_by : (hd lv : Bool) (ps : Parts) → TurnIs Was WasAsked k (turn_by most k hd lv ps) (Some (ask.Send c batch)) → TurnReplied Is (turn_by most k hd lv ps) (Gone last)
      gone_by true lv ps s = cc
      gone_by false true ps s = cc
      gone_by false false (y ∷ ys) s = leaves ys s.1
      gone_by false false [] s = top k.split (poll most k.tree) (asks_own most k.tree) s

      pub gone : TurnIs Was WasAsked k (turn most k) (Some (ask.Send c batch)) → TurnReplied Is (turn most k) (Gone last)
      gone = gone_by k.header k.leaving k.parts
