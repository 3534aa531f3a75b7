-- What each entry of a run of tasks keeps.
use Rattle.std.proofs.Common.{ℕ, ◌+◌, ◌<◌, ◌≡◌, ◌≢◌, ◌⊎◌, inl, inr, refl, sym, ap, ◌∙◌, subst, List, [], ◌∷◌, ◌++◌, length, set, Bool, true, false, Option, Some, None, append_assoc, get_or-set_same}
use Rattle.std.proofs.lemmas.List.{append-nil, map-append}
use Rattle.std.proofs.Math.ListN.{length-set}
use Rattle.run_journal.specs.declared.entry.Entry.{Entry}
use Rattle.task_shape.proofs.Numbers.{same_or_not}
use Rattle.task_shape.specs.Shape.{Shape, IsShape, task_at, has}
use Rattle.core_frame.specs.Step.{Need, Scan, Recv, Send, Grow, Free, Writes, Finish, Fail}
use Rattle.core_frame.specs.Good.{IsOwn, AreOwn}
use Rattle.core_frame.specs.declared.place.Place.TheVariants.{Woken, Done}
use Rattle.core_frame.proofs.Lists.{read_other}
use Rattle.core_frame.proofs.Replays.{tabulate_at}
use Rattle.history_laws.specs.Histories.{Reply, Past, Run, begun, past_of, pasts_after, reply_of, run_step, next_run, run_replay}
use Rattle.history_laws.specs.Contents.{has_end, parts_sent}
use Rattle.history_laws.specs.Recorded.{IsRecorded}
use Rattle.history_laws.proofs.Lists.{IsLonger, longer}
use Rattle.history_laws.proofs.Ways.{Way, way, way_inside, way_unfinished}
use Rattle.history_laws.proofs.Told.{way_outcome}
use Rattle.history_laws.proofs.Laws.{Stepped, stepped, past_begun, recorded, recorded_step}
use Rattle.logical_plan.specs.Items.{Cells}
use Rattle.tree_laws.specs.Operators.{IsFront}
use Rattle.tree_laws.specs.Trees.{form, FormReads, FormReserves}
use Rattle.tree_laws.specs.Tasks.{Parts, Split, Task, Wait, handled, all_parts, IsOut, IsTask, Tells, IsNext, IsWait}
use Rattle.tree_laws.specs.Runs.{State, no_task, the_task, wait_for, tasks_after, state_after, step_by, state_step, next_state, state_replay, AllTo, Fits, for_channel, Delivered, IsStart, IsReached}
use Rattle.tree_laws.proofs.Turns.{wait_keeps}
use Rattle.tree_laws.proofs.Endings.{way_was}
use Rattle.tree_laws.proofs.Deliveries.{delivered}

-- ------------------------------------------------------------ one step more

replay_more : (p : Shape) (o : Option (Run (List Cells))) (ss : List (Entry × Need (List Cells))) (s : Entry × Need (List Cells)) → run_replay p o (ss ++ s ∷ []) ≡ next_run p (run_replay p o ss) s
replay_more p o [] s = refl
replay_more p o (x ∷ ss) s = replay_more p (next_run p o x) ss s

own_more : (p : Shape) (ss : List (Entry × Need (List Cells))) (s : Entry × Need (List Cells)) → AreOwn p ss → IsOwn p (s.0).task s.1 → AreOwn p (ss ++ s ∷ [])
own_more p [] s a o = (o, tt)
own_more p (x ∷ ss) s a o = (a.0, own_more p ss s a.1 o)

-- ------------------------------------------------------------ needs are the task's own

to_append : (passes : ℕ → Bool) (xs ys : Parts) → AllTo passes xs → AllTo passes ys → AllTo passes (xs ++ ys)
to_append passes [] ys a b = b
to_append passes (x ∷ xs) ys a b = (a.0, to_append passes xs ys a.1 b)

to_rest : (passes : ℕ → Bool) (xs ys : Parts) → AllTo passes (xs ++ ys) → AllTo passes ys
to_rest passes [] ys a = a
to_rest passes (x ∷ xs) ys a = to_rest passes xs ys a.1

to_all : (passes : ℕ → Bool) (split : Split) (k : ℕ) (cuts : List (List Cells)) → ((j : ℕ) (b : List Cells) → AllTo passes (split j b)) → AllTo passes (all_parts split k cuts)
to_all passes split k [] a = tt
to_all passes split k (b ∷ bs) a = to_append passes (split k b) (all_parts split (k + 1) bs) (a k b) (to_all passes split (k + 1) bs a)

-- a task that fits goes on fitting
pub fits_next : (p : Shape) (t : ℕ) (k k2 : Task) → k2.split ≡ k.split → form k2.tree ≡ form k.tree → Fits p t k → Fits p t k2
fits_next p t k k2 es ef f = record {
  inlets = λ g c h. f.inlets g c (subst (FormReads g c) ef h);
  consumers = λ c h. f.consumers c (subst (FormReserves c) ef h);
  sends = λ split e. f.sends split (sym es ∙ e);
}

send_own : (p : Shape) (t : ℕ) (past : Past (List Cells)) (k : Task) (c : ℕ) (b : List Cells) (rest : Parts) (o : Option Split) → k.parts ≡ (c, b) ∷ rest → k.split ≡ o → Fits p t k → IsOut past k o
    → (g : ℕ) × ((task_at p t).sends ≡ Some g) × (has (task_at p t).targets c ≡ true)
send_own p t past k c b rest None e s f i = (let z : (c, b) ∷ rest ≡ [] = sym e ∙ i.1 in cc)
send_own p t past k c b rest (Some split) e s f i =
    let own = f.sends split s in
    let all : AllTo (has (task_at p t).targets) (handled past ++ k.parts) = subst (AllTo (has (task_at p t).targets)) (sym i.parts) (to_all (has (task_at p t).targets) split 0 i.cuts own.2) in
    let mine : AllTo (has (task_at p t).targets) ((c, b) ∷ rest) = subst (AllTo (has (task_at p t).targets)) e (to_rest (has (task_at p t).targets) (handled past) k.parts all) in
    (own.0, own.1, mine.0)

need_own : (p : Shape) (t size : ℕ) (past : Past (List Cells)) (k : Task) (n : Need (List Cells)) → Fits p t k → IsTask size past k → Tells size k n → IsOwn p t n
need_own p t size past k Scan f i a = tt
need_own p t size past k (Recv g c) f i a = f.inlets g c a
need_own p t size past k (Send c b) f i a = send_own p t past k c b a.0 k.split a.1 refl f i.out
need_own p t size past k (Grow c bytes) f i a = f.consumers c a
need_own p t size past k (Free c bytes) f i a = f.consumers c a
need_own p t size past k Writes f i a = tt
need_own p t size past k Finish f i a = tt
need_own p t size past k (Fail e) f i a = tt

-- ------------------------------------------------------------ one entry

pub some_same : {A : Type 0} (a b : A) → Some a ≡ Some b → a ≡ b
some_same a b e = cc

pub task_here : (tasks : List Task) (t : ℕ) (k : Task) → t < length tasks → the_task (set tasks t k) t ≡ k
task_here tasks t k h = get_or-set_same tasks t k no_task h

pub task_else : (tasks : List Task) (t u : ℕ) (k : Task) → t ≢ u → the_task (set tasks t k) u ≡ the_task tasks u
task_else tasks t u k n = read_other tasks t u k no_task n

-- the tasks after an entry, each with its history
record Next (size : ℕ) (pasts pasts2 : List (Past (List Cells))) (tasks tasks2 : List Task) : Type 0 where
  long : length tasks2 ≡ length tasks
  task : (u : ℕ) → IsNext size (past_of pasts2 u) (the_task tasks u) (the_task tasks2 u)

tasks_next : (size : ℕ) (pasts : List (Past (List Cells))) (tasks : List Task) (t : ℕ) (w : Wait) (o : Option (Reply (List Cells))) → t < length pasts → t < length tasks
    → ((u : ℕ) → IsTask size (past_of pasts u) (the_task tasks u)) → IsWait size (past_of pasts t) (the_task tasks t) w → Next size pasts (pasts_after pasts t w.need o) tasks (tasks_after tasks t w o)
tasks_next size pasts tasks t w None hp ht all i = record { long = length-set tasks t w.now; task = λ u. at u (same_or_not t u) }
  where
    at : (u : ℕ) → (t ≡ u) ⊎ (t ≢ u) → IsNext size (past_of pasts u) (the_task tasks u) (the_task (set tasks t w.now) u)
    at u (inl e) = subst (λ j. IsNext size (past_of pasts j) (the_task tasks j) (the_task (set tasks t w.now) j)) e (subst (IsNext size (past_of pasts t) (the_task tasks t)) (sym (task_here tasks t w.now ht)) i.before)
    at u (inr n) = subst (IsNext size (past_of pasts u) (the_task tasks u)) (sym (task_else tasks t u w.now n)) (record { task = all u; split = refl; same = refl })
tasks_next size pasts tasks t w (Some x) hp ht all i = record { long = length-set tasks t (w.after x); task = λ u. at u (same_or_not t u) }
  where
    more : IsLonger pasts (pasts_after pasts t w.need (Some x)) t w.need x
    more = longer pasts t w.need x hp

    told : IsNext size (past_of pasts t ++ (w.need, x) ∷ []) (the_task tasks t) (w.after x)
    told = record { task = (i.after x).task; split = (i.after x).split ∙ i.before.split; same = (i.after x).same ∙ i.before.same }

    at : (u : ℕ) → (t ≡ u) ⊎ (t ≢ u) → IsNext size (past_of (pasts_after pasts t w.need (Some x)) u) (the_task tasks u) (the_task (set tasks t (w.after x)) u)
    at u (inl e) = subst (λ j. IsNext size (past_of (pasts_after pasts t w.need (Some x)) j) (the_task tasks j) (the_task (set tasks t (w.after x)) j)) e
        (subst (λ h. IsNext size h (the_task tasks t) (the_task (set tasks t (w.after x)) t)) (sym more.here) (subst (IsNext size (past_of pasts t ++ (w.need, x) ∷ []) (the_task tasks t)) (sym (task_here tasks t (w.after x) ht)) told))
    at u (inr n) = subst (λ h. IsNext size h (the_task tasks u) (the_task (set tasks t (w.after x)) u)) (sym (more.other u n))
        (subst (IsNext size (past_of pasts u) (the_task tasks u)) (sym (task_else tasks t u (w.after x) n)) (record { task = all u; split = refl; same = refl }))

-- what an entry was made by
pub record Made (p : Shape) (size steps : ℕ) (s s2 : State) (e : Entry) : Type 0 where
  pub wait : Wait
  pub is : wait_for size steps e.kind (the_task s.tasks e.task) ≡ Some wait
  pub run : run_step p s.run e wait.need ≡ Some s2.run
  pub tasks : s2.tasks ≡ tasks_after s.tasks e.task wait (reply_of p s.run.frame e.task e.kind wait.need)

pub made : (p : Shape) (size steps : ℕ) (s s2 : State) (e : Entry) → state_step p size steps s e ≡ Some s2 → Made p size steps s s2 e
made p size steps s s2 e d = by_wait (wait_for size steps e.kind (the_task s.tasks e.task)) refl d
  where
    by_run : (w : Wait) → wait_for size steps e.kind (the_task s.tasks e.task) ≡ Some w → (o : Option (Run (List Cells))) → run_step p s.run e w.need ≡ o → state_after p s e w o ≡ Some s2 → Made p size steps s s2 e
    by_run w ew None er z = cc
    by_run w ew (Some r) er z = subst (λ x. Made p size steps s x e) (some_same _ s2 z) (record { wait = w; is = ew; run = er; tasks = refl })

    by_wait : (o : Option Wait) → wait_for size steps e.kind (the_task s.tasks e.task) ≡ o → step_by p s e o ≡ Some s2 → Made p size steps s s2 e
    by_wait None ew z = cc
    by_wait (Some w) ew z = by_run w ew (run_step p s.run e w.need) refl z

module _ (p : Shape) (sh : IsShape p) (size steps limit : ℕ) (start : State) (st : IsStart p size limit start) where
  fits_now : (es : List Entry) (s : State) → IsReached p size limit start es s → (t : ℕ) → Fits p t (the_task s.tasks t)
  fits_now es s k t = fits_next p t (the_task start.tasks t) (the_task s.tasks t) (k.split t) (k.form t) (st.fits t)

  pub reached_step : (es : List Entry) (s s2 : State) (e : Entry) → IsReached p size limit start es s → state_step p size steps s e ≡ Some s2 → IsReached p size limit start (es ++ e ∷ []) s2
  reached_step es s s2 e k d = record {
    steps = k.steps ++ (e, m.wait.need) ∷ [];
    same = map-append (λ (x : Entry × Need (List Cells)). x.0) k.steps ((e, m.wait.need) ∷ []) ∙ ap (λ l. l ++ e ∷ []) k.same;
    own = own_more p k.steps (e, m.wait.need) k.own own;
    run = replay_more p (Some (begun p limit)) k.steps (e, m.wait.need) ∙ (ap (λ o. next_run p o (e, m.wait.need)) k.run ∙ m.run);
    long = ap length m.tasks ∙ (next.long ∙ k.long);
    task = λ u. (now u).task;
    form = λ u. (now u).same ∙ k.form u;
    split = λ u. (now u).split ∙ k.split u;
    delivered = subst (λ l. Delivered p size s2.run.frame l s2.tasks) (sym done.pasts) (subst (λ l. Delivered p size s2.run.frame (pasts_after s.run.pasts e.task m.wait.need (reply_of p s.run.frame e.task e.kind m.wait.need)) l) (sym m.tasks)
        (delivered p sh size s.run.frame s2.run.frame s.run.pasts s.tasks kept.told k.delivered kept.lawful kept2.lawful k.task e.task m.wait w (subst (λ n. e.task < n) (sym kept.long) inside) (subst (λ n. e.task < n) (sym k.long) inside)
        (way_unfinished p s.run.frame e.task e.worker m.wait.need s2.run.frame (reply_of p s.run.frame e.task e.kind m.wait.need) went)
        (reply_of p s.run.frame e.task e.kind m.wait.need)
        (way_was p s.run.frame e.task e.worker m.wait.need s2.run.frame (reply_of p s.run.frame e.task e.kind m.wait.need) went)
        (way_outcome p sh s.run.frame e.task e.worker m.wait.need s2.run.frame (reply_of p s.run.frame e.task e.kind m.wait.need) kept.lawful own inside went)));
  }
    where
      m : Made p size steps s s2 e
      m = made p size steps s s2 e d

      kept : IsRecorded p s.run
      kept = recorded p limit k.steps s.run sh k.own k.run

      w : IsWait size (past_of s.run.pasts e.task) (the_task s.tasks e.task) m.wait
      w = wait_keeps size steps (past_of s.run.pasts e.task) e.kind (the_task s.tasks e.task) m.wait (k.task e.task) m.is

      own : IsOwn p e.task m.wait.need
      own = need_own p e.task size (past_of s.run.pasts e.task) m.wait.now m.wait.need (fits_next p e.task (the_task s.tasks e.task) m.wait.now w.before.split w.before.same (fits_now es s k e.task)) w.before.task w.tells

      done : Stepped p s.run s2.run e m.wait.need
      done = stepped p s.run s2.run e m.wait.need m.run

      went : Way p s.run.frame e.task e.worker m.wait.need s2.run.frame (reply_of p s.run.frame e.task e.kind m.wait.need)
      went = way p s.run.frame s2.run.frame e m.wait.need done.step

      inside : e.task < length p.tasks
      inside = subst (λ n. e.task < n) kept.lawful.frame.tasks (way_inside p s.run.frame e.task e.worker m.wait.need s2.run.frame (reply_of p s.run.frame e.task e.kind m.wait.need) went)

      kept2 : IsRecorded p s2.run
      kept2 = recorded_step p s.run s2.run e m.wait.need sh kept own m.run

      next : Next size s.run.pasts (pasts_after s.run.pasts e.task m.wait.need (reply_of p s.run.frame e.task e.kind m.wait.need)) s.tasks (tasks_after s.tasks e.task m.wait (reply_of p s.run.frame e.task e.kind m.wait.need))
      next = tasks_next size s.run.pasts s.tasks e.task m.wait (reply_of p s.run.frame e.task e.kind m.wait.need) (subst (λ n. e.task < n) (sym kept.long) inside) (subst (λ n. e.task < n) (sym k.long) inside) k.task w

      now : (u : ℕ) → IsNext size (past_of s2.run.pasts u) (the_task s.tasks u) (the_task s2.tasks u)
      now u = subst (λ l. IsNext size (past_of l u) (the_task s.tasks u) (the_task s2.tasks u)) (sym done.pasts)
          (subst (λ l. IsNext size (past_of (pasts_after s.run.pasts e.task m.wait.need (reply_of p s.run.frame e.task e.kind m.wait.need)) u) (the_task s.tasks u) (the_task l u)) (sym m.tasks) (next.task u))

  reached_all : (before es : List Entry) (o : Option State) → ((s : State) → o ≡ Some s → IsReached p size limit start before s) → (s : State) → state_replay p size steps o es ≡ Some s → IsReached p size limit start (before ++ es) s
  reached_all before [] o k s d = subst (λ l. IsReached p size limit start l s) (sym (append-nil before)) (k s d)
  reached_all before (e ∷ es) o k s d = subst (λ l. IsReached p size limit start l s) (append_assoc before (e ∷ []) es) (reached_all (before ++ e ∷ []) es (next_state p size steps o e) (λ s2 d2. next o k s2 d2) s d)
    where
      next : (o : Option State) → ((s : State) → o ≡ Some s → IsReached p size limit start before s) → (s2 : State) → next_state p size steps o e ≡ Some s2 → IsReached p size limit start (before ++ e ∷ []) s2
      next None k s2 d2 = cc
      next (Some s1) k s2 d2 = reached_step before s1 s2 e (k s1 refl) d2

  pub first : IsReached p size limit start [] start
  first = record {
    steps = [];
    same = refl;
    own = tt;
    run = ap Some (sym st.run);
    long = st.long;
    task = λ t. subst (λ h. IsTask size h (the_task start.tasks t)) (sym (ap (λ (r : Run (List Cells)). past_of r.pasts t) st.run ∙ past_begun p limit t)) (st.task t);
    form = λ t. refl;
    split = λ t. refl;
    delivered = subst (λ (r : Run (List Cells)). Delivered p size r.frame r.pasts start.tasks) (sym st.run) (record {
      done = λ t h e. (let z : Woken ≡ Done = sym (tabulate_at (length p.tasks) (λ _. Woken) t Done h) ∙ e in cc);
      over = λ t g c r e. (let z : true ≡ false = sym e ∙ ap (has_end g c) (past_begun p limit t) in cc);
      front = λ u g c e. subst (λ h. IsFront (parts_sent c h) (for_channel c (handled h))) (sym (past_begun p limit u)) ([], refl);
    });
  }

  pub reached : (es : List Entry) (s : State) → state_replay p size steps (Some start) es ≡ Some s → IsReached p size limit start es s
  reached es s d = reached_all [] es (Some start) (λ s1 e1. subst (IsReached p size limit start []) (some_same start s1 e1) first) s d
