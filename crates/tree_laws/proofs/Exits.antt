-- Only a task with a split sends, and only one without a split writes.
use Rattle.std.proofs.Common.{ℕ, zero, suc, ◌≡◌, ◌⊎◌, inl, inr, refl, sym, ap, ◌∙◌, subst, cond, List, [], ◌∷◌, Bool, true, false, ◌&&◌, Option, Some, None, is_some, get_or}
use Rattle.run_journal.specs.declared.entry.Entry.{Entry}
use Rattle.run_journal.specs.declared.entry.EntryKind.{EntryKind}
use Rattle.run_journal.specs.declared.entry.EntryKind.TheVariants.{Claimed, Scanned, Received, Empty, Ended as EndedKind, Sent, Held, Dropped, Granted, Refused as RefusedKind, Freed, Wrote, Yielded, Finished, Failed}
use Rattle.run_journal.specs.declared.cause.Cause.TheVariants.{NoMemory}
use Rattle.run_journal.specs.SameKind.{same_kind}
use Rattle.run_journal.proofs.SameKind.{kind_is}
use Rattle.task_shape.specs.Shape.{Shape, IsShape, task_at}
use Rattle.core_frame.specs.Frame.{Frame, place_of, is_owned}
use Rattle.core_frame.specs.Step.{Need, Scan, Recv, Send, Grow, Free, Writes, Finish, Fail, may_fail, is_yielded, claim_step, owner_step, is_over, frame_step, made, made_send, made_send_to, made_recv, made_grow}
use Rattle.history_laws.specs.Histories.{Reply, Go, Batch, Ended, Refused, Gone, Past, past_of}
use Rattle.history_laws.proofs.Laws.{stepped}
use Rattle.logical_plan.specs.Items.{Cells}
use Rattle.tree_laws.specs.Trees.{Poll, Gives, Ends, Moves, Asks, poll}
use Rattle.tree_laws.specs.Linked.{Asked, Keeps}
use Rattle.tree_laws.specs.Tasks.{Parts, Split, Task, Turn, Goes, Waits, after_send, top_turn, turn_by, turn, Wait, settled, settle, IsOut, IsTask, Tells, IsWait}
use Rattle.tree_laws.specs.Runs.{State, the_task, asks_nothing, wait_by, state_step, state_replay, IsStart, IsReached}
use Rattle.tree_laws.specs.Exits.{HeadsOwn, is_of_send}
use Rattle.tree_laws.proofs.Polls.{polled}
use Rattle.tree_laws.proofs.Turns.{KeepsTurn, turn_keeps, settle_keeps}
use Rattle.tree_laws.proofs.Runs.{some_same, Made, made as was_made, reached}
use Rattle.tree_laws.proofs.Kept.{KeptBy, each_reached}

-- ------------------------------------------------------------ needs

-- a task with a part to send has a split
split_of : (past : Past (List Cells)) (k : Task) (x : ℕ × List Cells) (xs : Parts) (o : Option Split) → k.parts ≡ x ∷ xs → IsOut past k o → is_some o ≡ true
split_of past k x xs None e i = (let z : x ∷ xs ≡ [] = sym e ∙ i.1 in cc)
split_of past k x xs (Some split) e i = refl

pub sends : (size steps : ℕ) (past : Past (List Cells)) (k : Task) (w : Wait) (c : ℕ) (b : List Cells) → IsTask size past k → settle size steps k ≡ Some w → w.need ≡ Send c b → is_some k.split ≡ true
sends size steps past k w c b ok e n = ap is_some (sym is.before.split) ∙ split_of past w.now (c, b) part.0 w.now.split part.1 is.before.task.out
  where
    is : IsWait size past k w
    is = settle_keeps size steps past k w ok e

    part : (rest : Parts) × (w.now.parts ≡ (c, b) ∷ rest)
    part = subst (λ (m : Need (List Cells)). Tells size w.now m) n is.tells

-- what a turn says of a task's header and of its need to write
abbrev TurnHeads : Task → Turn → Type 0
TurnHeads k (Goes k2) = HeadsOwn k2
TurnHeads k (Waits n a) = (n ≡ Writes → k.split ≡ None) × ((x : Reply (List Cells)) → HeadsOwn (a x))

module _ (size : ℕ) (past : Past (List Cells)) (k : Task) (ok : IsTask size past k) (h : HeadsOwn k) where
  sent_heads : (x : ℕ × List Cells) (xs : Parts) (r : Reply (List Cells)) → HeadsOwn (after_send k x xs r)
  sent_heads x xs Go = h
  sent_heads x xs (Gone last) = h
  sent_heads x xs (Batch rows) = h
  sent_heads x xs Ended = h
  sent_heads x xs Refused = h

  top_heads : (o : Option Split) (p : Poll) → k.split ≡ o → Keeps size past k.tree p → TurnHeads k (top_turn k o p)
  top_heads None (Gives rows rest) e q = (λ z. e, λ x. h)
  top_heads (Some split) (Gives rows rest) e q = h
  top_heads o Ends e q = (λ z. cc, λ x. h)
  top_heads o (Moves rest) e q = h
  top_heads o (Asks n f) e q = (λ z. absurd (subst (Asked k.tree) z q.0), λ x. h)

  turn_heads : (header leaving : Bool) (ps : Parts) → k.header ≡ header → TurnHeads k (turn_by size k header leaving ps)
  turn_heads true leaving ps e = (λ z. h e, λ x. λ y. cc)
  turn_heads false true ps e = (λ z. cc, λ x. h)
  turn_heads false false (x ∷ xs) e = (λ z. cc, λ r. sent_heads x xs r)
  turn_heads false false [] e = top_heads k.split (poll size k.tree) refl (polled size past k.tree ok.linked)

-- a task that waits
record WaitHeads (w : Wait) : Type 0 where
  now : HeadsOwn w.now
  writes : w.need ≡ Writes → w.now.split ≡ None
  after : (x : Reply (List Cells)) → HeadsOwn (w.after x)

settle_heads : (size steps : ℕ) (past : Past (List Cells)) (k : Task) (w : Wait) → IsTask size past k → HeadsOwn k → settle size steps k ≡ Some w → WaitHeads w
settle_heads size zero past k w ok h e = cc
settle_heads size (suc steps) past k w ok h e = go (turn size k) (turn_keeps size past k ok) (turn_heads size past k ok h k.header k.leaving k.parts refl) e (λ k2 i g d. settle_heads size steps past k2 w i g d)
  where
    go : (u : Turn) → KeepsTurn size past k u → TurnHeads k u → settled k u (settle size steps) ≡ Some w → ((k2 : Task) → IsTask size past k2 → HeadsOwn k2 → settle size steps k2 ≡ Some w → WaitHeads w) → WaitHeads w
    go (Goes k2) a g e rec = rec k2 a.task g e
    go (Waits need after) a g e rec = subst WaitHeads (some_same (record { now = k; need = need; after = after }) w e) (record { now = h; writes = g.0; after = g.1 })

pub writes : (size steps : ℕ) (past : Past (List Cells)) (k : Task) (w : Wait) → IsTask size past k → HeadsOwn k → settle size steps k ≡ Some w → w.need ≡ Writes → k.split ≡ None
writes size steps past k w ok h e n = sym (settle_keeps size steps past k w ok e).before.split ∙ (settle_heads size steps past k w ok h e).writes n

-- ------------------------------------------------------------ entries

wait_heads : (size steps : ℕ) → KeptBy size steps (λ past k. HeadsOwn k)
wait_heads size steps past kind k w ok h e = go (asks_nothing kind) e
  where
    go : (b : Bool) → wait_by size steps k b ≡ Some w → HeadsOwn w.now × ((x : Reply (List Cells)) → HeadsOwn (w.after x))
    go true e = subst (λ (v : Wait). HeadsOwn v.now × ((x : Reply (List Cells)) → HeadsOwn (v.after x))) (some_same (record { now = k; need = Scan; after = λ _. k }) w e) (h, λ x. h)
    go false e = (let q = settle_heads size steps past k w ok h e in (q.now, q.after))

chosen : {A : Type 0} (b : Bool) (x y z : A) → cond b x y ≡ z → ((b ≡ true) × (x ≡ z)) ⊎ ((b ≡ false) × (y ≡ z))
chosen true x y z e = inl (refl, e)
chosen false x y z e = inr (refl, e)

not_both : (b : Bool) → b ≡ true → b ≡ false → ⊥
not_both b x y = (let z : true ≡ false = sym x ∙ y in cc)

yields_nothing : (k : EntryKind) → is_yielded k ≡ true → asks_nothing k ≡ true
yields_nothing Yielded e = refl
yields_nothing Claimed e = refl
yields_nothing (Failed c) e = cc
yields_nothing Scanned e = cc
yields_nothing Received e = cc
yields_nothing Empty e = cc
yields_nothing EndedKind e = cc
yields_nothing Sent e = cc
yields_nothing Held e = cc
yields_nothing Dropped e = cc
yields_nothing Granted e = cc
yields_nothing RefusedKind e = cc
yields_nothing Freed e = cc
yields_nothing Wrote e = cc
yields_nothing Finished e = cc

fails_nothing : (k : EntryKind) → may_fail k ≡ true → asks_nothing k ≡ true
fails_nothing (Failed c) e = e
fails_nothing Yielded e = refl
fails_nothing Claimed e = refl
fails_nothing Scanned e = cc
fails_nothing Received e = cc
fails_nothing Empty e = cc
fails_nothing EndedKind e = cc
fails_nothing Sent e = cc
fails_nothing Held e = cc
fails_nothing Dropped e = cc
fails_nothing Granted e = cc
fails_nothing RefusedKind e = cc
fails_nothing Freed e = cc
fails_nothing Wrote e = cc
fails_nothing Finished e = cc

first_true : (a b : Bool) → a && b ≡ true → a ≡ true
first_true true b e = refl
first_true false b e = cc

claims_nothing : {B : Type 0} (f f2 : Frame B) (t w : ℕ) (k : EntryKind) → claim_step f t w k ≡ Some f2 → asks_nothing k ≡ true
claims_nothing f f2 t w Claimed e = refl
claims_nothing f f2 t w (Failed NoMemory) e = refl
claims_nothing f f2 t w _ e = cc

-- an entry that needs something is of the kind that its need makes
made_kind : {B : Type 0} (p : Shape) (f f2 : Frame B) (e : Entry) (n : Need B) → frame_step p f e n ≡ Some f2 → asks_nothing e.kind ≡ false → (made p f e.task n).kind ≡ e.kind
made_kind {B} p f f2 e n s a = elim (chosen (is_over f) _ _ _ s) [
  | inl x ↦ (let v : None ≡ Some f2 = x.1 in cc)
  | inr x ↦ elim (chosen (is_owned e.worker (place_of f e.task)) _ _ _ x.1) [
    | inl y ↦ owner y.1
    | inr y ↦ absurd (not_both (asks_nothing e.kind) (claims_nothing f f2 e.task e.worker e.kind y.1) a)
  ]
]
  where
    owner : owner_step p f e.task e.kind n ≡ Some f2 → (made p f e.task n).kind ≡ e.kind
    owner d = elim (chosen (may_fail e.kind) _ _ _ d) [
      | inl x ↦ absurd (not_both (asks_nothing e.kind) (fails_nothing e.kind x.0) a)
      | inr x ↦ elim (chosen (is_yielded e.kind && get_or f.progress e.task false) _ _ _ x.1) [
        | inl y ↦ absurd (not_both (asks_nothing e.kind) (yields_nothing e.kind (first_true (is_yielded e.kind) (get_or f.progress e.task false) y.0)) a)
        | inr y ↦ elim (chosen (same_kind (made p f e.task n).kind e.kind) _ _ _ y.1) [
          | inl z ↦ kind_is (made p f e.task n).kind e.kind z.0
          | inr z ↦ (let v : None ≡ Some f2 = z.1 in cc)
        ]
      ]
    ]

-- which needs make an entry of a send, and which a write
abbrev IsSend : {B : Type 0} → Need B → Type 0
IsSend {B} n = (c : ℕ) × (b : B) × (n ≡ Send c b)

recv_kind : {B : Type 0} (f : Frame B) (t g c : ℕ) (a b : Bool) → ((made_recv f t g c a b).kind ≡ Wrote → ⊥) × (is_of_send (made_recv f t g c a b).kind ≡ false)
recv_kind f t g c false b = (λ z. cc, refl)
recv_kind f t g c true true = (λ z. cc, refl)
recv_kind f t g c true false = (λ z. cc, refl)

grow_kind : {B : Type 0} (f : Frame B) (t c bytes : ℕ) (a b : Bool) → ((made_grow f t c bytes a b).kind ≡ Wrote → ⊥) × (is_of_send (made_grow f t c bytes a b).kind ≡ false)
grow_kind f t c bytes true b = (λ z. cc, refl)
grow_kind f t c bytes false true = (λ z. cc, refl)
grow_kind f t c bytes false false = (λ z. cc, refl)

send_kind : {B : Type 0} (f : Frame B) (t g c : ℕ) (b : B) (live opened : Bool) → (made_send f t g c b live opened).kind ≡ Wrote → ⊥
send_kind f t g c b false o z = cc
send_kind f t g c b true true z = cc
send_kind f t g c b true false z = cc

send_to_kind : {B : Type 0} (f : Frame B) (t : ℕ) (o : Option ℕ) (c : ℕ) (b : B) → (made_send_to f t o c b).kind ≡ Wrote → ⊥
send_to_kind f t None c b z = cc
send_to_kind f t (Some g) c b z = send_kind f t g c b _ _ z

write_need : {B : Type 0} (p : Shape) (f : Frame B) (t : ℕ) (n : Need B) → (made p f t n).kind ≡ Wrote → n ≡ Writes
write_need p f t Scan z = cc
write_need p f t (Recv g c) z = absurd ((recv_kind f t g c _ _).0 z)
write_need p f t (Send c b) z = absurd (send_to_kind f t (task_at p t).sends c b z)
write_need p f t (Grow c bytes) z = absurd ((grow_kind f t c bytes _ _).0 z)
write_need p f t (Free c bytes) z = cc
write_need p f t Writes z = refl
write_need p f t Finish z = cc
write_need p f t (Fail c) z = cc

send_need : {B : Type 0} (p : Shape) (f : Frame B) (t : ℕ) (n : Need B) → is_of_send (made p f t n).kind ≡ true → IsSend n
send_need p f t Scan z = cc
send_need p f t (Recv g c) z = absurd (not_both _ z (recv_kind f t g c _ _).1)
send_need p f t (Send c b) z = (c, b, refl)
send_need p f t (Grow c bytes) z = absurd (not_both _ z (grow_kind f t c bytes _ _).1)
send_need p f t (Free c bytes) z = cc
send_need p f t Writes z = cc
send_need p f t Finish z = cc
send_need p f t (Fail c) z = cc

sends_something : (k : EntryKind) → is_of_send k ≡ true → asks_nothing k ≡ false
sends_something Sent e = refl
sends_something Held e = refl
sends_something Dropped e = refl
sends_something Claimed e = cc
sends_something Yielded e = cc
sends_something (Failed c) e = cc
sends_something Scanned e = cc
sends_something Received e = cc
sends_something Empty e = cc
sends_something EndedKind e = cc
sends_something Granted e = cc
sends_something RefusedKind e = cc
sends_something Freed e = cc
sends_something Wrote e = cc
sends_something Finished e = cc

-- ------------------------------------------------------------ runs

module _ (p : Shape) (sh : IsShape p) (size steps limit : ℕ) (start s next : State) (entries : List Entry) (e : Entry) (st : IsStart p size limit start)
    (replayed : state_replay p size steps (Some start) entries ≡ Some s) (step : state_step p size steps s e ≡ Some next) where
  m : Made p size steps s next e
  m = was_made p size steps s next e step

  k : IsReached p size limit start entries s
  k = reached p sh size steps limit start st entries s replayed

  kind : asks_nothing e.kind ≡ false → (made p s.run.frame e.task m.wait.need).kind ≡ e.kind
  kind a = made_kind p s.run.frame next.run.frame e m.wait.need (stepped p s.run next.run e m.wait.need m.run).step a

  settles : asks_nothing e.kind ≡ false → settle size steps (the_task s.tasks e.task) ≡ Some m.wait
  settles a = sym (ap (wait_by size steps (the_task s.tasks e.task)) a) ∙ m.is

  pub sent : is_of_send e.kind ≡ true → is_some (the_task start.tasks e.task).split ≡ true
  sent z =
      let a : asks_nothing e.kind ≡ false = sends_something e.kind z in
      let n : IsSend m.wait.need = send_need p s.run.frame e.task m.wait.need (ap is_of_send (kind a) ∙ z) in
      sym (ap is_some (k.split e.task)) ∙ sends size steps (past_of s.run.pasts e.task) (the_task s.tasks e.task) m.wait n.0 n.1 (k.task e.task) (settles a) n.2

  pub wrote : ((t : ℕ) → HeadsOwn (the_task start.tasks t)) → e.kind ≡ Wrote → (the_task start.tasks e.task).split ≡ None
  wrote heads z =
      let a : asks_nothing e.kind ≡ false = ap asks_nothing z in
      let n : m.wait.need ≡ Writes = write_need p s.run.frame e.task m.wait.need (kind a ∙ z) in
      let h : HeadsOwn (the_task s.tasks e.task) = each_reached p sh size steps limit start st (λ past x. HeadsOwn x) (wait_heads size steps) heads entries s replayed e.task in
      sym (k.split e.task) ∙ writes size steps (past_of s.run.pasts e.task) (the_task s.tasks e.task) m.wait (k.task e.task) h (settles a) n
