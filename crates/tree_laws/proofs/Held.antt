-- What operators hold is what their histories say, and what consumers hold of the limit.
use Rattle.std.proofs.Common.{ℕ, zero, suc, ◌+◌, ◌≡◌, ◌≢◌, inl, inr, refl, sym, ap, ◌∙◌, subst, eqb, List, [], ◌∷◌, ◌++◌, length, take, drop, Bool, true, false, Option, Some, None, arith}
use Rattle.std.proofs.lemmas.Bool.{eq-eqb}
use Rattle.std.proofs.lemmas.Bool.Decides.{eqb_tells}
use Rattle.dfx_value.specs.declared.fault.ItemFault.{ItemFault}
use Rattle.run_journal.specs.declared.entry.Entry.{Entry}
use Rattle.fair_pool.specs.Share.{held_by}
use Rattle.task_shape.specs.Shape.{Shape, IsShape, HasOwners, task_at, has}
use Rattle.core_frame.specs.Frame.{place_of, unfinished}
use Rattle.core_frame.specs.Step.{Need, Scan, Recv, Send, Grow, Free, Writes, Finish, Fail}
use Rattle.history_laws.specs.Histories.{Reply, Go, Batch, Ended, Refused, Gone, Past, past_of}
use Rattle.history_laws.specs.Reserved.{kept_one, kept, owed, IsHeld}
use Rattle.history_laws.proofs.Reserved.{kept_more}
use Rattle.history_laws.proofs.Laws.{reserved}
use Rattle.logical_plan.specs.Items.{Cells, Item}
use Rattle.tree_laws.specs.Operators.{first_fault, Told, with_rows, with_flush, Op}
use Rattle.tree_laws.specs.Trees.{Desk, File, Tree, Nothing, Files, Inlet, Node, Poll, Gives, Ends, Moves, Asks, scanned, files_poll, inlet_after, inlet_poll, with_offered, holding, with_input, cut_poll, grown, freed, amount_of, offer_poll, input_poll, idle_poll, node_poll, poll, form, FormReserves, HasConsumer}
use Rattle.tree_laws.specs.Linked.{IsLinked, Asked, Keeps}
use Rattle.tree_laws.specs.Tasks.{Parts, Split, Task, Turn, Goes, Waits, after_send, top_turn, turn_by, turn, Wait, settled, settle, IsTask, Tells, IsWait}
use Rattle.tree_laws.specs.Runs.{State, the_task, Fits, asks_nothing, wait_by, state_replay, IsStart, IsReached}
use Rattle.tree_laws.specs.Held.{FormApart, IsApart, IsHolding, FreesAll, kept_in, KeepsHeld, WaitHolds}
use Rattle.tree_laws.proofs.Polls.{polled}
use Rattle.tree_laws.proofs.Turns.{KeepsTurn, turn_keeps, settle_keeps}
use Rattle.tree_laws.proofs.Runs.{some_same, fits_next, reached}
use Rattle.tree_laws.proofs.Kept.{KeptBy, each_reached}

-- only the counts of a tree's own consumers matter
pub held_same : (f g : ℕ → ℕ) (t : Tree) → ((c : ℕ) → HasConsumer c t → f c ≡ g c) → IsHolding f t → IsHolding g t
held_same f g Nothing e h = tt
held_same f g (Files all files gave unread) e h = tt
held_same f g (Inlet a d gave unread over) e h = tt
held_same f g (Node op t d inputs) e h = (λ c s. h.0 c s ∙ e c (inl s), λ i. held_same f g (inputs i) (λ c u. e c (inr (i, u))) (h.1 i))

-- a need of a tree says nothing of consumers that the tree hasn't
kept_quiet : (t : Tree) (c m : ℕ) (n : Need (List Cells)) (x : Reply (List Cells)) → Asked t n → (HasConsumer c t → ⊥) → kept_one c n x m ≡ m
kept_quiet t c m Scan x a o = refl
kept_quiet t c m (Recv g d) x a o = refl
kept_quiet t c m (Send d b) x a o = refl
kept_quiet t c m (Grow d b) Go a o = elim (eqb_tells d c) [ inl e ↦ absurd (o (subst (λ j. HasConsumer j t) e.1 a)) | inr e ↦ rw e.0 refl ]
kept_quiet t c m (Grow d b) (Batch r) a o = refl
kept_quiet t c m (Grow d b) Ended a o = refl
kept_quiet t c m (Grow d b) Refused a o = refl
kept_quiet t c m (Grow d b) (Gone l) a o = refl
kept_quiet t c m (Free d b) Go a o = elim (eqb_tells d c) [ inl e ↦ absurd (o (subst (λ j. HasConsumer j t) e.1 a)) | inr e ↦ rw e.0 refl ]
kept_quiet t c m (Free d b) (Batch r) a o = refl
kept_quiet t c m (Free d b) Ended a o = refl
kept_quiet t c m (Free d b) Refused a o = refl
kept_quiet t c m (Free d b) (Gone l) a o = refl
kept_quiet t c m Writes x a o = refl
kept_quiet t c m Finish x a o = refl
kept_quiet t c m (Fail y) x a o = refl

-- after a need of which nothing is kept, everything is held as before
held_still : (past : Past (List Cells)) (n : Need (List Cells)) (x : Reply (List Cells)) (t : Tree) → ((c m : ℕ) → kept_one c n x m ≡ m) → IsHolding (kept_in past) t → IsHolding (kept_in (past ++ (n, x) ∷ [])) t
held_still past n x t q h = held_same (kept_in past) (kept_in (past ++ (n, x) ∷ [])) t (λ c _. sym (kept_more c 0 past n x ∙ q c (kept c past))) h

-- ------------------------------------------------------------ leaves

scan_holds : (size : ℕ) (past : Past (List Cells)) (all : List Item) (file : File) (files : List File) (gave : List Cells) (o : Option ItemFault) → KeepsHeld past (scanned size all file files gave o)
scan_holds size past all file files gave None = (tt, λ x. tt)
scan_holds size past all file files gave (Some f) = (tt, λ x. tt)

files_hold : (size : ℕ) (past : Past (List Cells)) (all : List Item) (files : List File) (gave unread : List Cells) → KeepsHeld past (files_poll size all files gave unread)
files_hold size past all files gave (x ∷ xs) = tt
files_hold size past all [] gave [] = tt
files_hold size past all (file ∷ files) gave [] = scan_holds size past all file files gave (first_fault (take size file.items))

inlet_holds : (past : Past (List Cells)) (g c : ℕ) (gave unread : List Cells) (over : Bool) → KeepsHeld past (inlet_poll g c gave unread over)
inlet_holds past g c gave (x ∷ xs) over = tt
inlet_holds past g c gave [] true = tt
inlet_holds past g c gave [] false = (tt, λ x. after x)
  where
    after : (x : Reply (List Cells)) → IsHolding (kept_in (past ++ (Recv g c, x) ∷ [])) (inlet_after g c gave x)
    after (Batch rows) = tt
    after Ended = tt
    after Go = tt
    after Refused = tt
    after (Gone l) = tt

-- ------------------------------------------------------------ operators

same_consumer : (o : Option ℕ) (a c : ℕ) → o ≡ Some a → o ≡ Some c → a ≡ c
same_consumer o a c x y = (let z : Some a ≡ Some c = sym x ∙ y in cc)

module _ (op : Op) (t : Told) (d : Desk) (inputs : ℕ → Tree) (apart : IsApart (Node op t d inputs)) (past : Past (List Cells)) (h : IsHolding (kept_in past) (Node op t d inputs)) where
  cut_holds : (cut : List Item) (o : Option ItemFault) → KeepsHeld past (cut_poll op t d inputs cut o)
  cut_holds cut None = h
  cut_holds cut (Some f) = (tt, λ x. held_still past (Fail _) x (Node op t d inputs) (λ c m. refl) h)

  -- what the operator's own need says under its consumer, and nothing of its inputs'
  own_holds : (a : ℕ) → op.consumer ≡ Some a → (n : Need (List Cells)) (x : Reply (List Cells)) (t2 : Told) (d2 : Desk) → d2.held ≡ kept_one a n x d.held → ((c m : ℕ) → a ≢ c → kept_one c n x m ≡ m) → IsHolding (kept_in (past ++ (n, x) ∷ [])) (Node op t2 d2 inputs)
  own_holds a s n x t2 d2 e q = (
    λ c z. (let y : a ≡ c = same_consumer op.consumer a c s z in subst (λ j. d2.held ≡ kept j (past ++ (n, x) ∷ [])) y (e ∙ (ap (kept_one a n x) (h.0 a s) ∙ sym (kept_more a 0 past n x)))),
    λ i. held_same (kept_in past) (kept_in (past ++ (n, x) ∷ [])) (inputs i) (λ c u. sym (kept_more c 0 past n x ∙ q c (kept c past) (λ z. apart.2 i c (s ∙ ap Some z) u))) (h.1 i),
  )

  offer_holds : (o : Option ℕ) (amount : ℕ) (refused none : Bool) → op.consumer ≡ o → KeepsHeld past (offer_poll op t d inputs o amount refused none)
  offer_holds None amount refused none s = (λ c z. (let y : None ≡ Some c = sym s ∙ z in cc), h.1)
  offer_holds (Some a) amount true none s = (h.0 a s, λ x. answer x)
    where
      at : eqb a a ≡ true
      at = eq-eqb a a refl

      other : (c m : ℕ) → a ≢ c → kept_one {B = List Cells} c (Free a d.held) Go m ≡ m
      other c m z = elim (eqb_tells a c) [ inl e ↦ absurd (z e.1) | inr e ↦ rw e.0 refl ]

      answer : (x : Reply (List Cells)) → IsHolding (kept_in (past ++ (Free a d.held, x) ∷ [])) (freed op t d inputs x)
      answer Go = own_holds a s (Free a d.held) Go t (holding d false 0) (let z : 0 ≡ kept_one {B = List Cells} a (Free a d.held) Go d.held = rw at refl in z) other
      answer (Batch rows) = held_still past (Free a d.held) (Batch rows) (Node op t d inputs) (λ c m. refl) h
      answer Ended = held_still past (Free a d.held) Ended (Node op t d inputs) (λ c m. refl) h
      answer Refused = held_still past (Free a d.held) Refused (Node op t d inputs) (λ c m. refl) h
      answer (Gone l) = held_still past (Free a d.held) (Gone l) (Node op t d inputs) (λ c m. refl) h
  offer_holds (Some a) amount false true s = (λ c z. (let y : d.held + 0 ≡ d.held = omega arith in y ∙ h.0 c z), h.1)
  offer_holds (Some a) amount false false s = (tt, λ x. answer x)
    where
      at : eqb a a ≡ true
      at = eq-eqb a a refl

      other : (c m : ℕ) → a ≢ c → kept_one {B = List Cells} c (Grow a amount) Go m ≡ m
      other c m z = elim (eqb_tells a c) [ inl e ↦ absurd (z e.1) | inr e ↦ rw e.0 refl ]

      answer : (x : Reply (List Cells)) → IsHolding (kept_in (past ++ (Grow a amount, x) ∷ [])) (grown op t d inputs amount x)
      answer Go = own_holds a s (Grow a amount) Go (with_rows t (op.wanted t) d.offered) (holding (with_offered d []) false (d.held + amount)) (let z : d.held + amount ≡ kept_one {B = List Cells} a (Grow a amount) Go d.held = rw at refl in z) other
      answer Refused = held_still past (Grow a amount) Refused (Node op (with_flush t) d inputs) (λ c m. refl) h
      answer (Batch rows) = held_still past (Grow a amount) (Batch rows) (Node op t d inputs) (λ c m. refl) h
      answer Ended = held_still past (Grow a amount) Ended (Node op t d inputs) (λ c m. refl) h
      answer (Gone l) = held_still past (Grow a amount) (Gone l) (Node op t d inputs) (λ c m. refl) h

  -- one input is another tree
  beside : (f : ℕ → ℕ) (i : ℕ) (x : Tree) → IsHolding f x → ((j : ℕ) → i ≢ j → IsHolding f (inputs j)) → (j : ℕ) → IsHolding f (with_input inputs i x j)
  beside f i x l others j = elim (eqb_tells j i) [
    | inl s ↦ rw s.0 l
    | inr n ↦ rw n.0 (others j (λ e. n.1 (sym e)))
  ]

  input_holds : (size i : ℕ) (p : Poll) → Keeps size past (inputs i) p → KeepsHeld past p → KeepsHeld past (input_poll op t d inputs i p)
  input_holds size i (Gives rows rest) k q = (h.0, beside (kept_in past) i rest q (λ j _. h.1 j))
  input_holds size i Ends k q = h
  input_holds size i (Moves rest) k q = (h.0, beside (kept_in past) i rest q (λ j _. h.1 j))
  input_holds size i (Asks n f) k q = (
    q.0,
    λ x. (
      λ c z. h.0 c z ∙ sym (kept_more c 0 past n x ∙ kept_quiet (inputs i) c (kept c past) n x k.0 (λ u. apart.2 i c z u)),
      beside (kept_in (past ++ (n, x) ∷ [])) i (f x) (q.1 x) (λ j m. held_same (kept_in past) (kept_in (past ++ (n, x) ∷ [])) (inputs j)
          (λ c u. sym (kept_more c 0 past n x ∙ kept_quiet (inputs i) c (kept c past) n x k.0 (λ v. m (apart.1 i j c v u)))) (h.1 j)),
    ),
  )

  idle_holds : (size : ℕ) (c : Bool) (waiting : List Cells) → Keeps size past (inputs (op.wanted t)) (poll size (inputs (op.wanted t))) → KeepsHeld past (poll size (inputs (op.wanted t)))
      → KeepsHeld past (idle_poll op t d inputs c waiting (poll size (inputs (op.wanted t))))
  idle_holds size true waiting k q = tt
  idle_holds size false (x ∷ xs) k q = offer_holds op.consumer (amount_of op t d.offered) d.refused (eqb (amount_of op t d.offered) 0) refl
  idle_holds size false [] k q = input_holds size (op.wanted t) (poll size (inputs (op.wanted t))) k q

  node_holds : (size : ℕ) (xs : List Item) → Keeps size past (inputs (op.wanted t)) (poll size (inputs (op.wanted t))) → KeepsHeld past (poll size (inputs (op.wanted t)))
      → KeepsHeld past (node_poll size op t d inputs xs (poll size (inputs (op.wanted t))))
  node_holds size [] k q = idle_holds size (op.is_complete t) d.offered k q
  node_holds size (x ∷ xs) k q = cut_holds (take size (x ∷ xs)) (first_fault (take size (x ∷ xs)))

pub poll_holds : (size : ℕ) (past : Past (List Cells)) (t : Tree) → IsLinked size past t → IsApart t → IsHolding (kept_in past) t → KeepsHeld past (poll size t)
poll_holds size past Nothing k a h = tt
poll_holds size past (Files all files gave unread) k a h = files_hold size past all files gave unread
poll_holds size past (Inlet g c gave unread over) k a h = inlet_holds past g c gave unread over
poll_holds size past (Node op t d inputs) k a h = node_holds op t d inputs a past h size (drop (length d.gave) (op.items t)) (polled size past (inputs (op.wanted t)) (k.1 (op.wanted t)))
    (poll_holds size past (inputs (op.wanted t)) (k.1 (op.wanted t)) (a.3 (op.wanted t)) (h.1 (op.wanted t)))

-- ------------------------------------------------------------ tasks

-- its operators have different consumers, and hold what the history says
pub record TaskHolds (past : Past (List Cells)) (k : Task) : Type 0 where
  pub apart : IsApart k.tree
  pub holds : IsHolding (kept_in past) k.tree

abbrev TurnHolds : Past (List Cells) → Turn → Type 0
TurnHolds past (Goes k2) = TaskHolds past k2
TurnHolds past (Waits n a) = FreesAll (kept_in past) n × ((x : Reply (List Cells)) → TaskHolds (past ++ (n, x) ∷ []) (a x))

module _ (size : ℕ) (past : Past (List Cells)) (k : Task) (ok : IsTask size past k) (h : TaskHolds past k) where
  -- another tree of the same form
  apart_as : (x : Tree) → form x ≡ form k.tree → IsApart x
  apart_as x e = subst FormApart (sym e) h.apart

  -- a need of the task itself
  task_still : (n : Need (List Cells)) (x : Reply (List Cells)) (k2 : Task) → k2.tree ≡ k.tree → ((c m : ℕ) → kept_one c n x m ≡ m) → TaskHolds (past ++ (n, x) ∷ []) k2
  task_still n x k2 e q = record { apart = subst IsApart (sym e) h.apart; holds = subst (IsHolding (kept_in (past ++ (n, x) ∷ []))) (sym e) (held_still past n x k.tree q h.holds) }

  sent_holds : (x : ℕ × List Cells) (xs : Parts) (r : Reply (List Cells)) → TaskHolds (past ++ (Send x.0 x.1, r) ∷ []) (after_send k x xs r)
  sent_holds x xs Go = task_still (Send x.0 x.1) Go (after_send k x xs Go) refl (λ c m. refl)
  sent_holds x xs (Gone last) = task_still (Send x.0 x.1) (Gone last) (after_send k x xs (Gone last)) refl (λ c m. refl)
  sent_holds x xs (Batch rows) = task_still (Send x.0 x.1) (Batch rows) (after_send k x xs (Batch rows)) refl (λ c m. refl)
  sent_holds x xs Ended = task_still (Send x.0 x.1) Ended (after_send k x xs Ended) refl (λ c m. refl)
  sent_holds x xs Refused = task_still (Send x.0 x.1) Refused (after_send k x xs Refused) refl (λ c m. refl)

  top_holds : (o : Option Split) (p : Poll) → Keeps size past k.tree p → KeepsHeld past p → TurnHolds past (top_turn k o p)
  top_holds None (Gives rows rest) q g = (tt, λ x. record { apart = apart_as rest q.same; holds = held_still past Writes x rest (λ c m. refl) g })
  top_holds (Some split) (Gives rows rest) q g = record { apart = apart_as rest q.same; holds = g }
  top_holds o Ends q g = (tt, λ x. task_still Finish x k refl (λ c m. refl))
  top_holds o (Moves rest) q g = record { apart = apart_as rest q.same; holds = g }
  top_holds o (Asks n f) q g = (g.0, λ x. record { apart = apart_as (f x) (q.1 x).same; holds = g.1 x })

  turn_holds_by : (header leaving : Bool) (ps : Parts) → TurnHolds past (turn_by size k header leaving ps)
  turn_holds_by true leaving ps = (tt, λ x. task_still Writes x _ refl (λ c m. refl))
  turn_holds_by false true ps = (tt, λ x. task_still Finish x k refl (λ c m. refl))
  turn_holds_by false false (x ∷ xs) = (tt, λ r. sent_holds x xs r)
  turn_holds_by false false [] = top_holds k.split (poll size k.tree) (polled size past k.tree ok.linked) (poll_holds size past k.tree ok.linked h.apart h.holds)

-- a task that waits, with what its operators hold
record Waiting (past : Past (List Cells)) (w : Wait) : Type 0 where
  now : TaskHolds past w.now
  frees : FreesAll (kept_in past) w.need
  after : (x : Reply (List Cells)) → TaskHolds (past ++ (w.need, x) ∷ []) (w.after x)

settle_waits : (size steps : ℕ) (past : Past (List Cells)) (k : Task) (w : Wait) → IsTask size past k → TaskHolds past k → settle size steps k ≡ Some w → Waiting past w
settle_waits size zero past k w ok h e = cc
settle_waits size (suc steps) past k w ok h e = go (turn size k) (turn_keeps size past k ok) (turn_holds_by size past k ok h k.header k.leaving k.parts) e (λ k2 i g d. settle_waits size steps past k2 w i g d)
  where
    go : (u : Turn) → KeepsTurn size past k u → TurnHolds past u → settled k u (settle size steps) ≡ Some w → ((k2 : Task) → IsTask size past k2 → TaskHolds past k2 → settle size steps k2 ≡ Some w → Waiting past w) → Waiting past w
    go (Goes k2) a g e rec = rec k2 a.task g e
    go (Waits need after) a g e rec = subst (Waiting past) (some_same (record { now = k; need = need; after = after }) w e) (record { now = h; frees = g.0; after = g.1 })

pub settle_holds : (size steps : ℕ) (past : Past (List Cells)) (k : Task) (w : Wait) → IsTask size past k → IsApart k.tree → IsHolding (kept_in past) k.tree → settle size steps k ≡ Some w → WaitHolds past w
settle_holds size steps past k w ok a h e = (let q = settle_waits size steps past k w ok (record { apart = a; holds = h }) e in record { now = q.now.holds; frees = q.frees; after = λ x. (q.after x).holds })

wait_holds : (size steps : ℕ) → KeptBy size steps TaskHolds
wait_holds size steps past kind k w ok h e = go (asks_nothing kind) e
  where
    go : (b : Bool) → wait_by size steps k b ≡ Some w → TaskHolds past w.now × ((x : Reply (List Cells)) → TaskHolds (past ++ (w.need, x) ∷ []) (w.after x))
    go true e = subst (λ (v : Wait). TaskHolds past v.now × ((x : Reply (List Cells)) → TaskHolds (past ++ (v.need, x) ∷ []) (v.after x))) (some_same (record { now = k; need = Scan; after = λ _. k }) w e)
        (h, λ x. task_still size past k ok h Scan x k refl (λ c m. refl))
    go false e = (let q = settle_waits size steps past k w ok h e in (q.now, q.after))

-- ------------------------------------------------------------ states

module _ (p : Shape) (sh : IsShape p) (size steps limit : ℕ) (start s : State) (entries : List Entry) (st : IsStart p size limit start) (begins : (t : ℕ) → IsApart (the_task start.tasks t).tree × IsHolding (λ c. 0) (the_task start.tasks t).tree)
    (replayed : state_replay p size steps (Some start) entries ≡ Some s) where
  each_holds : (t : ℕ) → TaskHolds (past_of s.run.pasts t) (the_task s.tasks t)
  each_holds t = each_reached p sh size steps limit start st TaskHolds (wait_holds size steps) (λ u. record { apart = (begins u).0; holds = (begins u).1 }) entries s replayed t

  pub reached_holds : (t : ℕ) → IsHolding (kept_in (past_of s.run.pasts t)) (the_task s.tasks t).tree
  reached_holds t = (each_holds t).holds

  k : IsReached p size limit start entries s
  k = reached p sh size steps limit start st entries s replayed

  module _ (own : HasOwners p) where
    held : IsHeld p s.run.frame s.run.pasts
    held = reserved p limit k.steps s.run sh own k.own k.run

    of_task : (t c : ℕ) → has (task_at p t).consumers c ≡ true → unfinished (place_of s.run.frame t) ≡ true → kept_in (past_of s.run.pasts t) c ≡ held_by s.run.frame.pool c
    of_task t c o u = sym (held.holds t c o ∙ ap (λ b. owed b (kept c (past_of s.run.pasts t))) u)

    fits : (t : ℕ) → Fits p t (the_task s.tasks t)
    fits t = fits_next p t (the_task start.tasks t) (the_task s.tasks t) (k.split t) (k.form t) (st.fits t)

    pub pooled : (t : ℕ) → unfinished (place_of s.run.frame t) ≡ true → IsHolding (held_by s.run.frame.pool) (the_task s.tasks t).tree
    pooled t u = held_same (kept_in (past_of s.run.pasts t)) (held_by s.run.frame.pool) (the_task s.tasks t).tree (λ c h. of_task t c ((fits t).consumers c h) u) (reached_holds t)

    pub frees : (t turns : ℕ) (w : Wait) → unfinished (place_of s.run.frame t) ≡ true → settle size turns (the_task s.tasks t) ≡ Some w → FreesAll (held_by s.run.frame.pool) w.need
    frees t turns w u e = go w.need (settle_waits size turns (past_of s.run.pasts t) (the_task s.tasks t) w (k.task t) (each_holds t) e).frees is.tells
      where
        is : IsWait size (past_of s.run.pasts t) (the_task s.tasks t) w
        is = settle_keeps size turns (past_of s.run.pasts t) (the_task s.tasks t) w (k.task t) e

        go : (n : Need (List Cells)) → FreesAll (kept_in (past_of s.run.pasts t)) n → Tells size w.now n → FreesAll (held_by s.run.frame.pool) n
        go (Free c bytes) f a = f ∙ of_task t c ((fits t).consumers c (subst (FormReserves c) is.before.same a)) u
        go Scan f a = tt
        go (Recv g c) f a = tt
        go (Send c b) f a = tt
        go (Grow c bytes) f a = tt
        go Writes f a = tt
        go Finish f a = tt
        go (Fail y) f a = tt
