-- What each need of a task keeps, whatever it is answered, holds in each state that entries reach.
use Rattle.std.proofs.Common.{ℕ, ◌<◌, ◌≡◌, ◌≢◌, ◌⊎◌, inl, inr, refl, sym, ap, ◌∙◌, subst, List, [], ◌∷◌, ◌++◌, length, set, Option, Some, None}
use Rattle.run_journal.specs.declared.entry.Entry.{Entry}
use Rattle.run_journal.specs.declared.entry.EntryKind.{EntryKind}
use Rattle.task_shape.proofs.Numbers.{same_or_not}
use Rattle.task_shape.specs.Shape.{Shape, IsShape}
use Rattle.history_laws.specs.Histories.{Reply, Past, Run, past_of, pasts_after, reply_of}
use Rattle.history_laws.specs.Recorded.{IsRecorded}
use Rattle.history_laws.proofs.Lists.{IsLonger, longer}
use Rattle.history_laws.proofs.Ways.{way, way_inside}
use Rattle.history_laws.proofs.Laws.{Stepped, stepped, past_begun, recorded}
use Rattle.logical_plan.specs.Items.{Cells}
use Rattle.tree_laws.specs.Tasks.{Task, Wait, IsTask}
use Rattle.tree_laws.specs.Runs.{State, the_task, wait_for, tasks_after, next_state, state_step, state_replay, IsStart, IsReached}
use Rattle.tree_laws.proofs.Runs.{some_same, Made, made, task_here, task_else, reached_step, first}

-- a property of a task and its history that its needs keep
abbrev pub KeptBy : ℕ → ℕ → (Past (List Cells) → Task → Type 0) → Type 0
KeptBy size steps Q = (past : Past (List Cells)) (kind : EntryKind) (k : Task) (w : Wait) → IsTask size past k → Q past k → wait_for size steps kind k ≡ Some w
    → Q past w.now × ((x : Reply (List Cells)) → Q (past ++ (w.need, x) ∷ []) (w.after x))

module _ (p : Shape) (sh : IsShape p) (size steps limit : ℕ) (start : State) (st : IsStart p size limit start) (Q : Past (List Cells) → Task → Type 0) (keeps : KeptBy size steps Q) where
  abbrev EachIs : State → Type 0
  EachIs s = (t : ℕ) → Q (past_of s.run.pasts t) (the_task s.tasks t)

  -- the task of an entry keeps it, and the others stay as they are
  after_each : (pasts : List (Past (List Cells))) (tasks : List Task) (t : ℕ) (kind : EntryKind) (w : Wait) (o : Option (Reply (List Cells))) → t < length pasts → t < length tasks → ((u : ℕ) → IsTask size (past_of pasts u) (the_task tasks u))
      → wait_for size steps kind (the_task tasks t) ≡ Some w → ((u : ℕ) → Q (past_of pasts u) (the_task tasks u)) → (u : ℕ) → Q (past_of (pasts_after pasts t w.need o) u) (the_task (tasks_after tasks t w o) u)
  after_each pasts tasks t kind w None hp ht is e k u = at (same_or_not t u)
    where
      at : (t ≡ u) ⊎ (t ≢ u) → Q (past_of pasts u) (the_task (set tasks t w.now) u)
      at (inl q) = subst (λ j. Q (past_of pasts j) (the_task (set tasks t w.now) j)) q (subst (Q (past_of pasts t)) (sym (task_here tasks t w.now ht)) (keeps (past_of pasts t) kind (the_task tasks t) w (is t) (k t) e).0)
      at (inr n) = subst (Q (past_of pasts u)) (sym (task_else tasks t u w.now n)) (k u)
  after_each pasts tasks t kind w (Some x) hp ht is e k u = at (same_or_not t u)
    where
      more : IsLonger pasts (pasts_after pasts t w.need (Some x)) t w.need x
      more = longer pasts t w.need x hp

      at : (t ≡ u) ⊎ (t ≢ u) → Q (past_of (pasts_after pasts t w.need (Some x)) u) (the_task (set tasks t (w.after x)) u)
      at (inl q) = subst (λ j. Q (past_of (pasts_after pasts t w.need (Some x)) j) (the_task (set tasks t (w.after x)) j)) q
          (subst (λ h. Q h (the_task (set tasks t (w.after x)) t)) (sym more.here) (subst (Q (past_of pasts t ++ (w.need, x) ∷ [])) (sym (task_here tasks t (w.after x) ht)) ((keeps (past_of pasts t) kind (the_task tasks t) w (is t) (k t) e).1 x)))
      at (inr n) = subst (λ h. Q h (the_task (set tasks t (w.after x)) u)) (sym (more.other u n)) (subst (Q (past_of pasts u)) (sym (task_else tasks t u (w.after x) n)) (k u))

  each_step : (es : List Entry) (s s2 : State) (e : Entry) → IsReached p size limit start es s → EachIs s → state_step p size steps s e ≡ Some s2 → EachIs s2
  each_step es s s2 e k each d u = subst (λ l. Q (past_of l u) (the_task s2.tasks u)) (sym done.pasts) (subst (λ l. Q (past_of (pasts_after s.run.pasts e.task m.wait.need (reply_of p s.run.frame e.task e.kind m.wait.need)) u) (the_task l u)) (sym m.tasks)
      (after_each s.run.pasts s.tasks e.task e.kind m.wait (reply_of p s.run.frame e.task e.kind m.wait.need) (subst (λ n. e.task < n) (sym kept.long) inside) (subst (λ n. e.task < n) (sym k.long) inside) k.task m.is each u))
    where
      m : Made p size steps s s2 e
      m = made p size steps s s2 e d

      kept : IsRecorded p s.run
      kept = recorded p limit k.steps s.run sh k.own k.run

      done : Stepped p s.run s2.run e m.wait.need
      done = stepped p s.run s2.run e m.wait.need m.run

      inside : e.task < length p.tasks
      inside = subst (λ n. e.task < n) kept.lawful.frame.tasks (way_inside p s.run.frame e.task e.worker m.wait.need s2.run.frame (reply_of p s.run.frame e.task e.kind m.wait.need) (way p s.run.frame s2.run.frame e m.wait.need done.step))

  each_all : (before es : List Entry) (o : Option State) → ((s : State) → o ≡ Some s → IsReached p size limit start before s × EachIs s) → (s : State) → state_replay p size steps o es ≡ Some s → EachIs s
  each_all before [] o k s d = (k s d).1
  each_all before (e ∷ es) o k s d = each_all (before ++ e ∷ []) es (next_state p size steps o e) (λ s2 d2. next o k s2 d2) s d
    where
      next : (o : Option State) → ((s : State) → o ≡ Some s → IsReached p size limit start before s × EachIs s) → (s2 : State) → next_state p size steps o e ≡ Some s2 → IsReached p size limit start (before ++ e ∷ []) s2 × EachIs s2
      next None k s2 d2 = cc
      next (Some s1) k s2 d2 = (reached_step p sh size steps limit start st before s1 s2 e (k s1 refl).0 d2, each_step before s1 s2 e (k s1 refl).0 (k s1 refl).1 d2)

  -- what is kept, and holds at the start, holds in each state that is reached
  pub each_reached : ((t : ℕ) → Q [] (the_task start.tasks t)) → (es : List Entry) (s : State) → state_replay p size steps (Some start) es ≡ Some s → EachIs s
  each_reached q es s d = each_all [] es (Some start) (λ s1 e1. subst (λ x. IsReached p size limit start [] x × EachIs x) (some_same start s1 e1) (first p sh size steps limit start st, begins)) s d
    where
      begins : EachIs start
      begins t = subst (λ h. Q h (the_task start.tasks t)) (sym (ap (λ (r : Run (List Cells)). past_of r.pasts t) st.run ∙ past_begun p limit t)) (q t)
