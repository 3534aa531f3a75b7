-- Each turn of a task, and each reply to it, keeps what a task keeps.
use Rattle.std.proofs.Common.{ℕ, zero, suc, ◌+◌, ◌≡◌, inl, inr, refl, sym, ap, ◌∙◌, subst, eqb, List, [], ◌∷◌, ◌++◌, length, Bool, true, false, ◌||◌, Option, Some, None, arith, append_assoc, length-append}
use Rattle.std.proofs.lemmas.List.{append-nil}
use Rattle.run_journal.specs.declared.entry.EntryKind.{EntryKind}
use Rattle.core_frame.specs.Step.{Need, Scan, Recv, Send, Grow, Free, Writes, Finish, Fail}
use Rattle.history_laws.specs.Histories.{Reply, Go, Batch, Ended, Refused, Gone, Past}
use Rattle.history_laws.specs.Contents.{took_one, gone_one, gone}
use Rattle.history_laws.proofs.Lists.{gone_more}
use Rattle.logical_plan.specs.Items.{Cells, concat}
use Rattle.tree_laws.specs.Trees.{Tree, Poll, Gives, Ends, Moves, Asks, poll, gave_of, form}
use Rattle.tree_laws.specs.Linked.{IsLinked, Asked, Keeps}
use Rattle.tree_laws.specs.Tasks.{Parts, Split, Task, Turn, Goes, Waits, with_tree, headed, written, cut_up, with_parts, after_send, top_turn, turn_by, turn, Wait, settled, settle, handled_one, handled, all_parts, IsCut, IsOut, IsTask, Tells, IsNext, IsWait}
use Rattle.tree_laws.specs.Runs.{asks_nothing, wait_by, wait_for}
use Rattle.tree_laws.proofs.Fronts.{concat-append}
use Rattle.tree_laws.proofs.Polls.{polled, linked_other}

pub handled_more : (h : Past (List Cells)) (n : Need (List Cells)) (x : Reply (List Cells)) → handled (h ++ (n, x) ∷ []) ≡ handled h ++ handled_one n x
handled_more [] n x = append-nil (handled_one n x)
handled_more (s ∷ h) n x = ap (λ l. handled_one s.0 s.1 ++ l) (handled_more h n x) ∙ sym (append_assoc (handled_one s.0 s.1) (handled h) (handled_one n x))

all_parts_more : (f : Split) (k : ℕ) (bs : List (List Cells)) (b : List Cells) → all_parts f k (bs ++ b ∷ []) ≡ all_parts f k bs ++ f (k + length bs) b
all_parts_more f k [] b = append-nil (f k b) ∙ ap (λ i. f i b) (let e : k ≡ k + 0 = omega arith in e)
all_parts_more f k (a ∷ bs) b = ap (λ l. f k a ++ l) (all_parts_more f (k + 1) bs b ∙ ap (λ i. all_parts f (k + 1) bs ++ f i b) (let e : k + 1 + length bs ≡ k + suc (length bs) = omega arith in e)) ∙ sym (append_assoc (f k a) (all_parts f (k + 1) bs) (f (k + suc (length bs)) b))

-- what a turn keeps
abbrev pub KeepsTurn : ℕ → Past (List Cells) → Task → Turn → Type 0
KeepsTurn size past k (Goes k2) = IsNext size past k k2
KeepsTurn size past k (Waits n a) = Tells size k n × ((x : Reply (List Cells)) → IsNext size (past ++ (n, x) ∷ []) k (a x))

gone_still : (past : Past (List Cells)) (n : Need (List Cells)) (x : Reply (List Cells)) (c : ℕ) → gone c past ≡ true → gone c (past ++ (n, x) ∷ []) ≡ true
gone_still past n x c e = gone_more c past n x ∙ ap (λ b. b || gone_one c n x) e

out_same : (past : Past (List Cells)) (n : Need (List Cells)) (x : Reply (List Cells)) (k : Task) (o : Option Split) → handled_one n x ≡ [] → IsOut past k o → IsOut (past ++ (n, x) ∷ []) k o
out_same past n x k None e i = i
out_same past n x k (Some f) e i = record { cuts = i.cuts; rows = i.rows; count = i.count; parts = ap (λ l. l ++ k.parts) (handled_more past n x ∙ (ap (λ l. handled past ++ l) e ∙ append-nil (handled past))) ∙ i.parts }

-- the tree moved, and gave nothing
out_tree : (past : Past (List Cells)) (k : Task) (t : Tree) (o : Option Split) → gave_of t ≡ gave_of k.tree → IsOut past k o → IsOut past (with_tree k t) o
out_tree past k t None e i = (i.0 ∙ sym e, i.1, i.2)
out_tree past k t (Some f) e i = record { cuts = i.cuts; rows = i.rows ∙ sym e; count = i.count; parts = i.parts }

module _ (size : ℕ) (past : Past (List Cells)) (k : Task) (ok : IsTask size past k) where
  header_keeps : (x : Reply (List Cells)) → IsNext size (past ++ (Writes, x) ∷ []) k (headed k)
  header_keeps x = record {
    task = record { linked = linked_other size past Writes x k.tree (λ g c _. refl) ok.linked; out = same k.split (out_same past Writes x k k.split refl ok.out); left = λ e c. gone_still past Writes x c (ok.left e c) };
    split = refl;
    same = refl;
  }
    where
      same : (o : Option Split) → IsOut (past ++ (Writes, x) ∷ []) k o → IsOut (past ++ (Writes, x) ∷ []) (headed k) o
      same None i = i
      same (Some f) i = record { cuts = i.cuts; rows = i.rows; count = i.count; parts = i.parts }

  stays_idle : (n : Need (List Cells)) (x : Reply (List Cells)) → ((g c : ℕ) → took_one g c n x ≡ []) → handled_one n x ≡ [] → IsNext size (past ++ (n, x) ∷ []) k k
  stays_idle n x t h = record {
    task = record { linked = linked_other size past n x k.tree (λ g c _. t g c) ok.linked; out = out_same past n x k k.split h ok.out; left = λ e c. gone_still past n x c (ok.left e c) };
    split = refl;
    same = refl;
  }

  send_keeps : (p : ℕ × List Cells) (ps : Parts) → k.parts ≡ p ∷ ps → (x : Reply (List Cells)) → IsNext size (past ++ (Send p.0 p.1, x) ∷ []) k (after_send k p ps x)
  send_keeps p ps e x = go x
    where
      linked : (x : Reply (List Cells)) → IsLinked size (past ++ (Send p.0 p.1, x) ∷ []) k.tree
      linked x = linked_other size past (Send p.0 p.1) x k.tree (λ g c _. refl) ok.linked

      passed : (x : Reply (List Cells)) (leaving : Bool) (o : Option Split) → handled_one (Send p.0 p.1) x ≡ p ∷ [] → IsOut past k o → IsOut (past ++ (Send p.0 p.1, x) ∷ []) (with_parts k ps leaving) o
      passed x l None h i = (let z : p ∷ ps ≡ [] = sym e ∙ i.1 in cc)
      passed x l (Some f) h i = record { cuts = i.cuts; rows = i.rows; count = i.count; parts = ap (λ l. l ++ ps) (handled_more past (Send p.0 p.1) x ∙ ap (λ l. handled past ++ l) h) ∙ (append_assoc (handled past) (p ∷ []) ps ∙ (ap (λ l. handled past ++ l) (sym e) ∙ i.parts)) }

      stays : (x : Reply (List Cells)) → handled_one (Send p.0 p.1) x ≡ [] → (o : Option Split) → IsOut past k o → IsOut (past ++ (Send p.0 p.1, x) ∷ []) (with_parts k (p ∷ ps) k.leaving) o
      stays x h None i = (i.0, sym e ∙ i.1, i.2)
      stays x h (Some f) i = (let j = out_same past (Send p.0 p.1) x k (Some f) h i in record { cuts = j.cuts; rows = j.rows; count = j.count; parts = ap (λ l. handled (past ++ (Send p.0 p.1, x) ∷ []) ++ l) (sym e) ∙ j.parts })

      kept : (x : Reply (List Cells)) → handled_one (Send p.0 p.1) x ≡ [] → IsNext size (past ++ (Send p.0 p.1, x) ∷ []) k (with_parts k (p ∷ ps) k.leaving)
      kept x h = record { task = record { linked = linked x; out = stays x h k.split ok.out; left = λ e c. gone_still past (Send p.0 p.1) x c (ok.left e c) }; split = refl; same = refl }

      last : (a b : Bool) (c : ℕ) → (a ≡ true → gone c past ≡ true) → a || b ≡ true → gone c past || (eqb p.0 c || b) ≡ true
      last true b c h z = rw (h refl) refl
      last false true c h z = or_true (gone c past) (eqb p.0 c)
        where
          or_true : (a b : Bool) → a || (b || true) ≡ true
          or_true true b = refl
          or_true false true = refl
          or_true false false = refl
      last false false c h z = cc

      go : (x : Reply (List Cells)) → IsNext size (past ++ (Send p.0 p.1, x) ∷ []) k (after_send k p ps x)
      go Go = record { task = record { linked = linked Go; out = passed Go k.leaving k.split refl ok.out; left = λ e c. gone_still past (Send p.0 p.1) Go c (ok.left e c) }; split = refl; same = refl }
      go (Gone l) = record {
        task = record { linked = linked (Gone l); out = passed (Gone l) (k.leaving || l) k.split refl ok.out; left = λ e c. (gone_more c past (Send p.0 p.1) (Gone l) ∙ last k.leaving l c (λ z. ok.left z c) e) };
        split = refl;
        same = refl;
      }
      go (Batch rows) = kept (Batch rows) refl
      go Ended = kept Ended refl
      go Refused = kept Refused refl

  after_tree : (past2 : Past (List Cells)) (t : Tree) → IsLinked size past2 t → IsOut past2 (with_tree k t) k.split → (k.leaving ≡ true → (c : ℕ) → gone c past2 ≡ true) → form t ≡ form k.tree → IsNext size past2 k (with_tree k t)
  after_tree past2 t l o g s = record { task = record { linked = l; out = o; left = g }; split = refl; same = s }

  top_keeps : (o : Option Split) (p : Poll) → k.split ≡ o → k.parts ≡ [] → poll size k.tree ≡ p → Keeps size past k.tree p → KeepsTurn size past k (top_turn k o p)
  top_keeps None (Gives rows rest) eo ep e q = (
    tt,
    λ x. record {
      task = record {
        linked = linked_other size past Writes x rest (λ g c _. refl) q.linked;
        out = subst (λ u. IsOut (past ++ (Writes, x) ∷ []) (written k rows rest) u) (sym eo) ((let i : IsOut past k None = subst (IsOut past k) eo ok.out in (ap (λ l. l ++ rows) i.0 ∙ sym q.gave, ep, i.2)));
        left = λ z c. gone_still past Writes x c (ok.left z c);
      };
      split = refl;
      same = q.same;
    },
  )
  top_keeps (Some f) (Gives rows rest) eo ep e q = record {
    task = record {
      linked = q.linked;
      out = subst (λ u. IsOut past (cut_up k f rows rest) u) (sym eo) (let i : IsOut past k (Some f) = subst (IsOut past k) eo ok.out in cut i);
      left = ok.left;
    };
    split = refl;
    same = q.same;
  }
    where
      cut : IsCut past k f → IsCut past (cut_up k f rows rest) f
      cut i = record {
        cuts = i.cuts ++ rows ∷ [];
        rows = concat-append i.cuts (rows ∷ []) ∙ (ap (λ l. concat i.cuts ++ l) (append-nil rows) ∙ (ap (λ l. l ++ rows) i.rows ∙ sym q.gave));
        count = length-append i.cuts (rows ∷ []) ∙ ap (λ m. m + 1) i.count;
        parts = ap (λ l. l ++ f k.batches rows) (sym (append-nil (handled past)) ∙ (ap (λ l. handled past ++ l) (sym ep) ∙ i.parts)) ∙ (ap (λ m. all_parts f 0 i.cuts ++ f m rows) (let z : k.batches ≡ 0 + length i.cuts = omega (arith, i.count) in z) ∙ sym (all_parts_more f 0 i.cuts rows));
      }
  top_keeps o Ends eo ep e q = (inr (ep, e), λ x. stays_idle Finish x (λ g c. refl) refl)
  top_keeps o (Moves rest) eo ep e q = after_tree past rest q.linked (out_tree past k rest k.split (q.gave ∙ append-nil (gave_of k.tree)) ok.out) ok.left q.same
  top_keeps o (Asks n a) eo ep e q = (named n q.0, λ x. (let y = q.1 x in after_tree (past ++ (n, x) ∷ []) (a x) y.linked (out_tree (past ++ (n, x) ∷ []) k (a x) k.split (y.gave ∙ append-nil (gave_of k.tree)) (out_same past n x k k.split (not_send n x q.0) ok.out)) (λ z c. gone_still past n x c (ok.left z c)) y.same))
    where
      named : (n : Need (List Cells)) → Asked k.tree n → Tells size k n
      named Scan a = tt
      named (Recv g c) a = a
      named (Send c b) a = absurd a
      named (Grow c b) a = a
      named (Free c b) a = a
      named Writes a = absurd a
      named Finish a = absurd a
      named (Fail y) a = tt

      not_send : (n : Need (List Cells)) (x : Reply (List Cells)) → Asked k.tree n → handled_one n x ≡ []
      not_send Scan x a = refl
      not_send (Recv g c) x a = refl
      not_send (Send c b) x a = absurd a
      not_send (Grow c b) x a = refl
      not_send (Free c b) x a = refl
      not_send Writes x a = refl
      not_send Finish x a = refl
      not_send (Fail y) x a = refl

  turn_by_keeps : (header leaving : Bool) (ps : Parts) → k.leaving ≡ leaving → k.parts ≡ ps → KeepsTurn size past k (turn_by size k header leaving ps)
  turn_by_keeps true l ps e1 e2 = (tt, λ x. header_keeps x)
  turn_by_keeps false true ps e1 e2 = (inl e1, λ x. stays_idle Finish x (λ g c. refl) refl)
  turn_by_keeps false false (p ∷ ps) e1 e2 = ((ps, e2), λ x. send_keeps p ps e2 x)
  turn_by_keeps false false [] e1 e2 = top_keeps k.split (poll size k.tree) refl e2 refl (polled size past k.tree ok.linked)

pub turn_keeps : (size : ℕ) (past : Past (List Cells)) (k : Task) → IsTask size past k → KeepsTurn size past k (turn size k)
turn_keeps size past k ok = turn_by_keeps size past k ok k.header k.leaving k.parts refl refl

some_same : (x y : Wait) → Some x ≡ Some y → x ≡ y
some_same x y e = cc

pub settle_keeps : (size steps : ℕ) (past : Past (List Cells)) (k : Task) (w : Wait) → IsTask size past k → settle size steps k ≡ Some w → IsWait size past k w
settle_keeps size zero past k w ok e = cc
settle_keeps size (suc steps) past k w ok e = go (turn size k) (turn_keeps size past k ok) e (λ k2 t d. settle_keeps size steps past k2 w t d)
  where
    go : (u : Turn) → KeepsTurn size past k u → settled k u (settle size steps) ≡ Some w → ((k2 : Task) → IsTask size past k2 → settle size steps k2 ≡ Some w → IsWait size past k2 w) → IsWait size past k w
    go (Goes k2) a e rec = (let r = rec k2 a.task e in record {
      before = record { task = r.before.task; split = r.before.split ∙ a.split; same = r.before.same ∙ a.same };
      tells = r.tells;
      after = r.after;
    })
    go (Waits n f) a e rec = subst (IsWait size past k) (some_same (record { now = k; need = n; after = f }) w e) (record {
      before = record { task = ok; split = refl; same = refl };
      tells = a.0;
      after = a.1;
    })

pub wait_keeps : (size steps : ℕ) (past : Past (List Cells)) (kind : EntryKind) (k : Task) (w : Wait) → IsTask size past k → wait_for size steps kind k ≡ Some w → IsWait size past k w
wait_keeps size steps past kind k w ok e = go (asks_nothing kind) e
  where
    go : (b : Bool) → wait_by size steps k b ≡ Some w → IsWait size past k w
    go false e = settle_keeps size steps past k w ok e
    go true e = subst (IsWait size past k) (some_same (record { now = k; need = Scan; after = λ _. k }) w e) (record {
      before = record { task = ok; split = refl; same = refl };
      tells = tt;
      after = λ x. stays_idle size past k ok Scan x (λ g c. refl) refl;
    })
