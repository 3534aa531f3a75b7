-- Another worker's entries leave an owned task what it was, its history with it.
use Rattle.std.proofs.Common.{ℕ, ◌≡◌, ◌≢◌, refl, sym, ap, ◌∙◌, subst, List, [], ◌∷◌, ◌++◌, get_or, Bool, false, Option, Some, None, append-nil, IfSome}
use Rattle.std.proofs.lemmas.List.{append_cancel_left}
use Rattle.std.proofs.lemmas.List.Elements.{filter-append}
use Rattle.run_journal.specs.declared.entry.Entry.{Entry}
use Rattle.task_shape.specs.Shape.{Shape}
use Rattle.core_frame.specs.declared.place.Place.TheVariants.{OwnedBy}
use Rattle.core_frame.specs.Frame.{Frame, place_of}
use Rattle.core_frame.specs.Lawful.{IsLawful}
use Rattle.core_frame.specs.Step.{frame_step}
use Rattle.core_frame.proofs.Lists.{read_other}
use Rattle.history_laws.specs.Histories.{Reply, Past, past_of, reply_of, run_after}
use Rattle.logical_plan.specs.Items.{Cells}
use Rattle.tree_laws.specs.Tasks.{Task, Wait}
use Rattle.tree_laws.specs.Runs.{State, no_task, the_task, wait_for, tasks_after, state_after, step_by, state_step, next_state, state_replay}
use Rattle.turn_cell.specs.Acts.{entries_by, JournalFollows}
use Rattle.tree_laws.specs.Settles.{Leads}
use Rattle.run_laws.specs.Others.{IsLeft}
use Rattle.tree_laws.proofs.Settles.{leads_one, leads_front}
use Rattle.run_laws.proofs.Others.{Has, has_lawful, HasApart, step_has, first_other, pasts_other}

module _ (t : ℕ) where
  tasks_other : (tasks : List Task) (u : ℕ) (w : Wait) (o : Option (Reply (List Cells))) → u ≢ t → the_task (tasks_after tasks u w o) t ≡ the_task tasks t
  tasks_other tasks u w None n = read_other tasks u t w.now no_task n
  tasks_other tasks u w (Some x) n = read_other tasks u t (w.after x) no_task n

  -- ------------------------------------------------------------ an entry of another task
  abbrev pub Same : State → State → Type 0
  Same s new = (past_of new.run.pasts t ≡ past_of s.run.pasts t) × (the_task new.tasks t ≡ the_task s.tasks t)

  other_after : (p : Shape) (s : State) (e : Entry) (w : Wait) (o : Option (Frame (List Cells))) → e.task ≢ t → IfSome (state_after p s e w (run_after p s.run e w.need o)) (Same s)
  other_after p s e w None n = tt
  other_after p s e w (Some f) n =
      let o : Option (Reply (List Cells)) = reply_of p s.run.frame e.task e.kind w.need in
      (pasts_other p 0 t false s.run.pasts e.task w.need o n, tasks_other s.tasks e.task w o n)

  other_by : (p : Shape) (s : State) (e : Entry) (o : Option Wait) → e.task ≢ t → IfSome (step_by p s e o) (Same s)
  other_by p s e None n = tt
  other_by p s e (Some w) n = other_after p s e w (frame_step p s.run.frame e w.need) n

  pub other_task : (p : Shape) (size n : ℕ) (s new : State) (e : Entry) → e.task ≢ t → state_step p size n s e ≡ Some new → Same s new
  other_task p size n s new e d i = subst (λ o. IfSome o (Same s)) i (other_by p s e (wait_for size n e.kind (the_task s.tasks e.task)) d)

  -- ------------------------------------------------------------ entries of other workers
  module _ (p : Shape) (w : ℕ) (b : Bool) (h : Past (List Cells)) (k : Task) where
    pub record Keeps (s : State) : Type 0 where
      pub frame : Has w t b s.run.frame
      pub past : past_of s.run.pasts t ≡ h
      pub task : the_task s.tasks t ≡ k

    keeps_after : (s : State) (e : Entry) (x : Wait) (o : Option (Frame (List Cells))) → Keeps s → IfSome o (HasApart t w b e) → IfSome (state_after p s e x (run_after p s.run e x.need o)) Keeps
    keeps_after s e x None c d = tt
    keeps_after s e x (Some f) c d =
        let o : Option (Reply (List Cells)) = reply_of p s.run.frame e.task e.kind x.need in
        record { frame = d.0; past = pasts_other p 0 t false s.run.pasts e.task x.need o d.1 ∙ c.past; task = tasks_other s.tasks e.task x o d.1 ∙ c.task }

    keeps_by : (s : State) (e : Entry) (o : Option Wait) → e.worker ≢ w → Keeps s → IfSome (step_by p s e o) Keeps
    keeps_by s e None n c = tt
    keeps_by s e (Some x) n c = keeps_after s e x (frame_step p s.run.frame e x.need) c (step_has t w b p s.run.frame e x.need n c.frame)

    pub replay_keeps : (size n : ℕ) (o : Option State) (es : List Entry) → entries_by w es ≡ [] → IfSome o Keeps → IfSome (state_replay p size n o es) Keeps
    replay_keeps size n o [] d c = c
    replay_keeps size n o (e ∷ es) d c = let z : (e.worker ≢ w) × (entries_by w es ≡ []) = first_other w e es d in replay_keeps size n (next_state p size n o e) es z.1 (next o z.0 c)
      where
        next : (o : Option State) → e.worker ≢ w → IfSome o Keeps → IfSome (next_state p size n o e) Keeps
        next None m c = tt
        next (Some s) m c = keeps_by s e (wait_for size n e.kind (the_task s.tasks e.task)) m c

pub entries_leave : (p : Shape) (size : ℕ) (s new : State) (es : List Entry) (w t : ℕ) → IsLawful p s.run.frame → place_of s.run.frame t ≡ OwnedBy w → entries_by w es ≡ [] → Leads p size s es new → IsLeft w t s new
entries_leave p size s new es w t lawful at none leads =
    let k : Keeps t p w (get_or s.run.frame.progress t false) (past_of s.run.pasts t) (the_task s.tasks t) new =
    subst (λ o. IfSome o (Keeps t p w (get_or s.run.frame.progress t false) (past_of s.run.pasts t) (the_task s.tasks t))) leads.1
    (replay_keeps t p w _ _ _ size leads.0 (Some s) es none (record { frame = has_lawful p s.run.frame w t lawful at; past = refl; task = refl })) in
    record { run = record { frame = record { place = k.frame.place; progress = k.frame.progress }; past = k.past }; task = k.task }

pub follows_leave : (p : Shape) (size : ℕ) (start s new : State) (before after : List Entry) (w t : ℕ) → IsLawful p s.run.frame → place_of s.run.frame t ≡ OwnedBy w
    → Leads p size start before s → Leads p size start after new → JournalFollows w before after → IsLeft w t s new
follows_leave p size start s new before after w t lawful at a b follows =
    let more : List Entry = follows.0.0 in
    let long : before ++ more ≡ after = follows.0.1 in
    let front : (x : State) × Leads p size start before x × Leads p size x more new = leads_front p size start new before more (subst (λ es. Leads p size start es new) (sym long) b) in
    let same : front.0 ≡ s = leads_one p size start front.0 s before front.1 a in
    let on : Leads p size s more new = subst (λ x. Leads p size x more new) same front.2 in
    let none : entries_by w more ≡ [] = append_cancel_left (entries_by w before) _ _ (sym (filter-append _ before more) ∙ (ap (entries_by w) long ∙ (follows.1 ∙ sym (append-nil (entries_by w before))))) in
    entries_leave p size s new more w t lawful at none on
