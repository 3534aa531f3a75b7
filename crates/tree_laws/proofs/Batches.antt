-- No batch that a tree gives is empty, and no part that a task sends.
use Rattle.std.proofs.Common.{ℕ, zero, suc, ◌<◌, ◌≡◌, refl, sym, subst, List, [], ◌∷◌, ◌++◌, length, take, drop, Bool, true, false, Option, Some, None, Ok, Err, arith}
use Rattle.dfx_value.specs.declared.fault.ItemFault.{ItemFault}
use Rattle.run_journal.specs.declared.entry.Entry.{Entry}
use Rattle.task_shape.specs.Shape.{Shape, IsShape}
use Rattle.core_frame.specs.Step.{Need, Scan, Recv, Send, Grow, Free, Writes, Finish, Fail}
use Rattle.history_laws.specs.Histories.{Reply, Go, Batch, Ended, Refused, Gone, Past, past_of}
use Rattle.logical_plan.specs.Items.{Cells, Item}
use Rattle.tree_laws.specs.Operators.{first_fault, Told, Op}
use Rattle.tree_laws.specs.Trees.{Desk, File, Tree, Nothing, Files, Inlet, Node, Poll, Gives, Ends, Moves, Asks, scanned, files_poll, inlet_poll, cut_poll, amount_of, offer_poll, input_poll, idle_poll, node_poll, poll}
use Rattle.tree_laws.specs.Tasks.{Parts, Split, Task, Turn, Goes, Waits, after_send, top_turn, turn_by, turn, Wait, settled, settle, handled_one, handled, IsTask}
use Rattle.tree_laws.specs.Linked.{Asked, Keeps}
use Rattle.tree_laws.specs.Runs.{State, the_task, asks_nothing, wait_by, state_replay, IsStart}
use Rattle.tree_laws.specs.Batches.{HasRows, AllHaveRows, IsFilled, AreFilled}
use Rattle.tree_laws.proofs.Polls.{polled}
use Rattle.tree_laws.proofs.Turns.{handled_more, KeepsTurn, turn_keeps}
use Rattle.tree_laws.proofs.Runs.{some_same}
use Rattle.tree_laws.proofs.Kept.{KeptBy, each_reached}

-- ------------------------------------------------------------ trees

-- what a poll gives has rows
abbrev GivesRows : Poll → Type 0
GivesRows (Gives rows rest) = HasRows rows
GivesRows _ = Unit {0}

cut_rows : (op : Op) (t : Told) (d : Desk) (inputs : ℕ → Tree) (n : ℕ) (x : Item) (xs : List Item) (o : Option ItemFault) → first_fault (take (suc n) (x ∷ xs)) ≡ o → GivesRows (cut_poll op t d inputs (take (suc n) (x ∷ xs)) o)
cut_rows op t d inputs n (Ok row) xs None e = tt
cut_rows op t d inputs n (Err f) xs None e = cc
cut_rows op t d inputs n x xs (Some f) e = tt

offer_rows : (op : Op) (t : Told) (d : Desk) (inputs : ℕ → Tree) (o : Option ℕ) (amount : ℕ) (refused none : Bool) → GivesRows (offer_poll op t d inputs o amount refused none)
offer_rows op t d inputs None amount refused none = tt
offer_rows op t d inputs (Some c) amount true none = tt
offer_rows op t d inputs (Some c) amount false true = tt
offer_rows op t d inputs (Some c) amount false false = tt

input_rows : (op : Op) (t : Told) (d : Desk) (inputs : ℕ → Tree) (i : ℕ) (p : Poll) → GivesRows (input_poll op t d inputs i p)
input_rows op t d inputs i (Gives rows rest) = tt
input_rows op t d inputs i Ends = tt
input_rows op t d inputs i (Moves rest) = tt
input_rows op t d inputs i (Asks need after) = tt

idle_rows : (op : Op) (t : Told) (d : Desk) (inputs : ℕ → Tree) (c : Bool) (waiting : List Cells) (asked : Poll) → GivesRows (idle_poll op t d inputs c waiting asked)
idle_rows op t d inputs true waiting asked = tt
idle_rows op t d inputs false (x ∷ xs) asked = offer_rows op t d inputs op.consumer (amount_of op t d.offered) d.refused _
idle_rows op t d inputs false [] asked = input_rows op t d inputs (op.wanted t) asked

node_rows : (n : ℕ) (op : Op) (t : Told) (d : Desk) (inputs : ℕ → Tree) (items : List Item) (asked : Poll) → GivesRows (node_poll (suc n) op t d inputs items asked)
node_rows n op t d inputs [] asked = idle_rows op t d inputs (op.is_complete t) d.offered asked
node_rows n op t d inputs (x ∷ xs) asked = cut_rows op t d inputs n x xs (first_fault (take (suc n) (x ∷ xs))) refl

scan_rows : (size : ℕ) (all : List Item) (file : File) (files : List File) (gave : List Cells) (o : Option ItemFault) → GivesRows (scanned size all file files gave o)
scan_rows size all file files gave None = tt
scan_rows size all file files gave (Some f) = tt

files_rows : (size : ℕ) (all : List Item) (files : List File) (gave unread : List Cells) → GivesRows (files_poll size all files gave unread)
files_rows size all files gave (x ∷ xs) = tt
files_rows size all [] gave [] = tt
files_rows size all (file ∷ files) gave [] = scan_rows size all file files gave (first_fault (take size file.items))

inlet_rows : (g c : ℕ) (gave unread : List Cells) (over : Bool) → GivesRows (inlet_poll g c gave unread over)
inlet_rows g c gave (x ∷ xs) over = tt
inlet_rows g c gave [] true = tt
inlet_rows g c gave [] false = tt

poll_rows : (n : ℕ) (t : Tree) → GivesRows (poll (suc n) t)
poll_rows n Nothing = tt
poll_rows n (Files all files gave unread) = files_rows (suc n) all files gave unread
poll_rows n (Inlet g c gave unread over) = inlet_rows g c gave unread over
poll_rows n (Node op t d inputs) = node_rows n op t d inputs (drop (length d.gave) (op.items t)) (poll (suc n) (inputs (op.wanted t)))

pub gives_rows : (size : ℕ) (t : Tree) (rows : List Cells) (rest : Tree) → 0 < size → poll size t ≡ Gives rows rest → HasRows rows
gives_rows zero t rows rest h e = absurd (omega arith)
gives_rows (suc n) t rows rest h e = subst GivesRows e (poll_rows n t)

-- ------------------------------------------------------------ tasks

pub have_append : (xs ys : Parts) → AllHaveRows xs → AllHaveRows ys → AllHaveRows (xs ++ ys)
have_append [] ys a b = b
have_append (x ∷ xs) ys a b = (a.0, have_append xs ys a.1 b)

-- the parts that were handled have rows, and those that wait
pub record IsSent (past : Past (List Cells)) (k : Task) : Type 0 where
  pub sent : AllHaveRows (handled past)
  pub task : IsFilled k

-- what a turn keeps
abbrev FillsTurn : Turn → Type 0
FillsTurn (Goes k2) = IsFilled k2
FillsTurn (Waits n a) = (x : Reply (List Cells)) → AllHaveRows (handled_one n x) × IsFilled (a x)

-- a need of a tree sends nothing
none_sent : (t : Tree) (n : Need (List Cells)) (x : Reply (List Cells)) → Asked t n → AllHaveRows (handled_one n x)
none_sent t Scan x a = tt
none_sent t (Recv g c) x a = tt
none_sent t (Send c b) x a = absurd a
none_sent t (Grow c b) x a = tt
none_sent t (Free c b) x a = tt
none_sent t Writes x a = tt
none_sent t Finish x a = tt
none_sent t (Fail y) x a = tt

module _ (n : ℕ) (past : Past (List Cells)) (k : Task) (ok : IsTask (suc n) past k) (f : IsFilled k) where
  sent_fills : (x : ℕ × List Cells) (xs : Parts) → k.parts ≡ x ∷ xs → (r : Reply (List Cells)) → AllHaveRows (handled_one (Send x.0 x.1) r) × IsFilled (after_send k x xs r)
  sent_fills x xs e r = go r
    where
      all : AllHaveRows (x ∷ xs)
      all = subst AllHaveRows e f.parts

      go : (r : Reply (List Cells)) → AllHaveRows (handled_one (Send x.0 x.1) r) × IsFilled (after_send k x xs r)
      go Go = ((all.0, tt), record { split = f.split; parts = all.1 })
      go (Gone last) = ((all.0, tt), record { split = f.split; parts = all.1 })
      go (Batch rows) = (tt, record { split = f.split; parts = all })
      go Ended = (tt, record { split = f.split; parts = all })
      go Refused = (tt, record { split = f.split; parts = all })

  top_fills : (o : Option Split) (p : Poll) → k.split ≡ o → k.parts ≡ [] → GivesRows p → Keeps (suc n) past k.tree p → FillsTurn (top_turn k o p)
  top_fills None (Gives rows rest) eo ep g q = λ x. (tt, record { split = f.split; parts = f.parts })
  top_fills (Some split) (Gives rows rest) eo ep g q = record { split = f.split; parts = f.split split eo k.batches rows g }
  top_fills o Ends eo ep g q = λ x. (tt, f)
  top_fills o (Moves rest) eo ep g q = record { split = f.split; parts = f.parts }
  top_fills o (Asks need after) eo ep g q = λ x. (none_sent k.tree need x q.0, record { split = f.split; parts = f.parts })

  turn_fills_by : (header leaving : Bool) (ps : Parts) → k.parts ≡ ps → FillsTurn (turn_by (suc n) k header leaving ps)
  turn_fills_by true leaving ps e = λ x. (tt, record { split = f.split; parts = f.parts })
  turn_fills_by false true ps e = λ x. (tt, f)
  turn_fills_by false false (x ∷ xs) e = sent_fills x xs e
  turn_fills_by false false [] e = top_fills k.split (poll (suc n) k.tree) refl e (poll_rows n k.tree) (polled (suc n) past k.tree ok.linked)

settle_fills : (n steps : ℕ) (past : Past (List Cells)) (k : Task) (w : Wait) → IsTask (suc n) past k → IsFilled k → settle (suc n) steps k ≡ Some w
    → IsFilled w.now × ((x : Reply (List Cells)) → AllHaveRows (handled_one w.need x) × IsFilled (w.after x))
settle_fills n zero past k w ok f e = cc
settle_fills n (suc steps) past k w ok f e = go (turn (suc n) k) (turn_keeps (suc n) past k ok) (turn_fills_by n past k ok f k.header k.leaving k.parts refl) e (λ k2 i g d. settle_fills n steps past k2 w i g d)
  where
    go : (u : Turn) → KeepsTurn (suc n) past k u → FillsTurn u → settled k u (settle (suc n) steps) ≡ Some w
        → ((k2 : Task) → IsTask (suc n) past k2 → IsFilled k2 → settle (suc n) steps k2 ≡ Some w → IsFilled w.now × ((x : Reply (List Cells)) → AllHaveRows (handled_one w.need x) × IsFilled (w.after x)))
        → IsFilled w.now × ((x : Reply (List Cells)) → AllHaveRows (handled_one w.need x) × IsFilled (w.after x))
    go (Goes k2) a g e rec = rec k2 a.task g e
    go (Waits need after) a g e rec = subst (λ (v : Wait). IsFilled v.now × ((x : Reply (List Cells)) → AllHaveRows (handled_one v.need x) × IsFilled (v.after x))) (some_same (record { now = k; need = need; after = after }) w e) (f, g)

wait_fills : (n steps : ℕ) → KeptBy (suc n) steps IsSent
wait_fills n steps past kind k w ok f e = go (asks_nothing kind) e
  where
    sent : (m : Need (List Cells)) (x : Reply (List Cells)) → AllHaveRows (handled_one m x) → AllHaveRows (handled (past ++ (m, x) ∷ []))
    sent m x a = subst AllHaveRows (sym (handled_more past m x)) (have_append (handled past) (handled_one m x) f.sent a)

    go : (b : Bool) → wait_by (suc n) steps k b ≡ Some w → IsSent past w.now × ((x : Reply (List Cells)) → IsSent (past ++ (w.need, x) ∷ []) (w.after x))
    go true e = subst (λ (v : Wait). IsSent past v.now × ((x : Reply (List Cells)) → IsSent (past ++ (v.need, x) ∷ []) (v.after x))) (some_same (record { now = k; need = Scan; after = λ _. k }) w e)
        (f, λ x. record { sent = sent Scan x tt; task = f.task })
    go false e = (let q = settle_fills n steps past k w ok f.task e in (record { sent = f.sent; task = q.0 }, λ x. record { sent = sent w.need x (q.1 x).0; task = (q.1 x).1 }))

pub filled : (p : Shape) (size steps limit : ℕ) (start s : State) (entries : List Entry) → IsShape p → IsStart p size limit start → 0 < size → AreFilled start.tasks → state_replay p size steps (Some start) entries ≡ Some s
    → (t : ℕ) → AllHaveRows (handled (past_of s.run.pasts t)) × IsFilled (the_task s.tasks t)
filled p zero steps limit start s entries sh st h f e t = absurd (omega arith)
filled p (suc n) steps limit start s entries sh st h f e t = (let q = each_reached p sh (suc n) steps limit start st IsSent (wait_fills n steps) (λ u. record { sent = tt; task = f u }) entries s e t in (q.sent, q.task))
