-- What a run keeps by each of its acts.
use Rattle.std.proofs.Common.{ℕ, zero, suc, ◌<◌, ◌≡◌, ◌≢◌, refl, sym, ap, ◌∙◌, subst, List, [], ◌∷◌, ◌++◌, map, length, get_or, get_or-set_same, true, false, Option, Some, None, is_some, arith, option_map}
use Rattle.run_journal.specs.declared.entry.Entry.{Entry}
use Rattle.task_shape.specs.Shape.{Shape, IsShape}
use Rattle.core_frame.specs.declared.place.Place.{Place}
use Rattle.core_frame.specs.declared.place.Place.TheVariants.{OwnedBy, Done}
use Rattle.core_frame.specs.Frame.{Frame, place_of, opening}
use Rattle.core_frame.specs.Good.{IsOwn, AreOwn}
use Rattle.core_frame.specs.Step.{Need, frame_step, next_frame, frame_replay}
use Rattle.core_frame.proofs.Replays.{lawful_step}
use Rattle.core_frame.proofs.Sound.{lawful_opening}
use Rattle.history_laws.specs.Histories.{Reply, Run, reply_of}
use Rattle.logical_plan.specs.Items.{Cells}
use Rattle.tree_laws.specs.Tasks.{Task, Wait}
use Rattle.tree_laws.specs.Runs.{State, IsStart, IsReached, no_task, the_task, asks_nothing, tasks_after, state_step, state_replay}
use Rattle.turn_cell.specs.declared.act.Act.{Act}
use Rattle.turn_cell.specs.declared.act.Act.TheVariants.{Made, Returned}
use Rattle.turn_cell.specs.Acts.{journal_of, Follows}
use Rattle.turn_cell.specs.Loans.{loan_of}
use Rattle.core_frame.specs.Carried.{map_need}
use Rattle.history_laws.specs.Carried.{map_reply}
use Rattle.tree_laws.specs.Settles.{Settles, Leads}
use Rattle.run_laws.specs.Told.{answered, unanswered, task_after}
use Rattle.run_laws.specs.Others.{entries_of, IsLeft}
use Rattle.run_laws.specs.Kept.{IsRun, IsToldRun, TaskIs}
use Rattle.core_frame.proofs.Carried.{opening_map}
use Rattle.tree_laws.proofs.Settles.{leads_one, leads_on, leads_front}
use Rattle.run_laws.proofs.Told.{step_owner, answered_step, unanswered_step}
use Rattle.run_laws.proofs.Owners.{other_task}
use Rattle.run_laws.proofs.Loans.{Fine, loans_step, loans_returned, loans_opening}
use Rattle.run_laws.proofs.Reached.{leads_reached, leads_fine, loan_stays}

-- ------------------------------------------------------------ the journal of acts
journal_made : (acts : List Act) (e : Entry) → journal_of (acts ++ Made e ∷ []) ≡ journal_of acts ++ e ∷ []
journal_made [] e = refl
journal_made (Made d ∷ acts) e = ap (λ (es : List Entry). d ∷ es) (journal_made acts e)
journal_made (Returned w t ∷ acts) e = journal_made acts e

journal_returned : (acts : List Act) (w t : ℕ) → journal_of (acts ++ Returned w t ∷ []) ≡ journal_of acts
journal_returned [] w t = refl
journal_returned (Made d ∷ acts) w t = ap (λ (es : List Entry). d ∷ es) (journal_returned acts w t)
journal_returned (Returned v u ∷ acts) w t = journal_returned acts w t

-- ------------------------------------------------------------ told or not
module _ {B : Type 0} (p : Shape) where
  entries_on : (steps : List (Entry × Need B)) (s : Entry × Need B) → entries_of (steps ++ s ∷ []) ≡ entries_of steps ++ s.0 ∷ []
  entries_on [] s = refl
  entries_on (x ∷ steps) s = ap (λ (es : List Entry). x.0 ∷ es) (entries_on steps s)

  own_on : (steps : List (Entry × Need B)) (s : Entry × Need B) → AreOwn p steps → IsOwn p (s.0).task s.1 → AreOwn p (steps ++ s ∷ [])
  own_on [] s a o = (o, tt)
  own_on (x ∷ steps) s a o = (a.0, own_on steps s a.1 o)

  replay_on : (o : Option (Frame B)) (steps : List (Entry × Need B)) (s : Entry × Need B) → frame_replay p o (steps ++ s ∷ []) ≡ next_frame p (frame_replay p o steps) s
  replay_on o [] s = refl
  replay_on o (x ∷ steps) s = replay_on (next_frame p o x) steps s

  pub run_begun : (limit : ℕ) → IsShape p → IsRun {B = B} p limit [] (opening p limit)
  run_begun limit shape = record { steps = []; entries = refl; own = tt; leads = refl; lawful = lawful_opening p limit shape; loans = loans_opening p limit }

  pub run_made : (limit : ℕ) (acts : List Act) (f new : Frame B) (e : Entry) (need : Need B) → IsShape p → IsRun p limit acts f → IsOwn p e.task need → frame_step p f e need ≡ Some new
      → IsRun p limit (acts ++ Made e ∷ []) new
  run_made limit acts f new e need shape r own i = record {
    steps = r.steps ++ (e, need) ∷ [];
    entries = entries_on r.steps (e, need) ∙ (ap (λ es. es ++ e ∷ []) r.entries ∙ sym (journal_made acts e));
    own = own_on r.steps (e, need) r.own own;
    leads = replay_on (Some (opening p limit)) r.steps (e, need) ∙ (ap (λ o. next_frame p o (e, need)) r.leads ∙ i);
    lawful = lawful_step p f new e need shape r.lawful own i;
    loans = loans_step p f new e need acts r.lawful r.loans i;
  }

  pub run_returned : (limit : ℕ) (acts : List Act) (f : Frame B) (w t : ℕ) → IsRun p limit acts f → is_some f.failure ≡ true → IsRun p limit (acts ++ Returned w t ∷ []) f
  run_returned limit acts f w t r over = record {
    steps = r.steps;
    entries = r.entries ∙ sym (journal_returned acts w t);
    own = r.own;
    leads = r.leads;
    lawful = r.lawful;
    loans = loans_returned f acts w t r.loans over;
  }

-- ------------------------------------------------------------ tasks by acts
module _ (p : Shape) (size : ℕ) (start : State) where
  leads_made : (acts : List Act) (e : Entry) (s new : State) → Leads p size start (journal_of acts) s → Leads p size s (e ∷ []) new → Leads p size start (journal_of (acts ++ Made e ∷ [])) new
  leads_made acts e s new a b = subst (λ es. Leads p size start es new) (sym (journal_made acts e)) (leads_on p size start s new (journal_of acts) (e ∷ []) a b)

  leads_returned : (acts : List Act) (w t : ℕ) (s : State) → Leads p size start (journal_of acts) s → Leads p size start (journal_of (acts ++ Returned w t ∷ [])) s
  leads_returned acts w t s a = subst (λ es. Leads p size start es s) (sym (journal_returned acts w t)) a

  pub task_returned : (acts : List Act) (w u t : ℕ) (k : Task) → TaskIs p size start acts t k → TaskIs p size start (acts ++ Returned w u ∷ []) t k
  task_returned acts w u t k is = record { state = is.state; leads = leads_returned acts w u is.state is.leads; same = is.same }

  -- in the one state that the acts lead to
  pub task_at : (acts : List Act) (t : ℕ) (k : Task) (s : State) → Leads p size start (journal_of acts) s → TaskIs p size start acts t k → the_task s.tasks t ≡ k
  task_at acts t k s a is = ap (λ (x : State). the_task x.tasks t) (leads_one p size start s is.state (journal_of acts) a is.leads) ∙ is.same

  one_step : (n : ℕ) (s new : State) (e : Entry) → state_replay p size n (Some s) (e ∷ []) ≡ Some new → state_step p size n s e ≡ Some new
  one_step n s new e i = i

  -- an entry of another task leaves it
  pub task_apart : (acts : List Act) (e : Entry) (t : ℕ) (k : Task) (new : State) → e.task ≢ t → TaskIs p size start acts t k → Leads p size start (journal_of (acts ++ Made e ∷ [])) new
      → TaskIs p size start (acts ++ Made e ∷ []) t k
  task_apart acts e t k new n is leads =
      let front : (s : State) × Leads p size start (journal_of acts) s × Leads p size s (e ∷ []) new =
      leads_front p size start new (journal_of acts) (e ∷ []) (subst (λ es. Leads p size start es new) (journal_made acts e) leads) in
      record { state = new; leads = leads; same = (other_task t p size front.2.0 front.0 new e n (one_step front.2.0 front.0 new e front.2.1)).1 ∙ task_at acts t k front.0 front.1 is }

  -- and so do entries of other workers
  pub task_stays : (limit : ℕ) (new : State) (before now : List Act) (w t : ℕ) (k : Task) → IsShape p → IsStart p size limit start
      → loan_of w before ≡ Some t → Follows w before now → TaskIs p size start before t k → Leads p size start (journal_of now) new → TaskIs p size start now t k
  task_stays limit new before now w t k shape first loan follows is leads =
      let stays : (s : State) × Leads p size start (journal_of before) s × IsLeft w t s new × (loan_of w now ≡ Some t) = loan_stays p size limit start new before now w t shape first loan follows leads in
      record { state = new; leads = leads; same = stays.2.task ∙ task_at before t k stays.0 stays.1 is }

-- ------------------------------------------------------------ told
owned_inside : (qs : List Place) (t w : ℕ) → get_or qs t Done ≡ OwnedBy w → t < length qs
owned_inside [] t w e = cc
owned_inside (q ∷ qs) zero w e = omega arith
owned_inside (q ∷ qs) (suc t) w e = let i : t < length qs = owned_inside qs t w e in omega arith

after_same : (tasks : List Task) (t : ℕ) (w : Wait) (o : Option (Reply (List Cells))) → t < length tasks → the_task (tasks_after tasks t w o) t ≡ task_after w o
after_same tasks t w None i = get_or-set_same tasks t w.now no_task i
after_same tasks t w (Some x) i = get_or-set_same tasks t (w.after x) no_task i

module _ {B : Type 0} (rows : B → List Cells) (p : Shape) (size limit : ℕ) (start : State) where
  pub told_begun : IsStart p size limit start → IsToldRun rows p size start [] (opening p limit)
  told_begun first = record { state = start; leads = (0, refl); frame = ap (λ (r : Run (List Cells)). r.frame) first.run ∙ sym (opening_map rows p limit) }

  pub told_returned : (acts : List Act) (f : Frame B) (w t : ℕ) → IsToldRun rows p size start acts f → IsToldRun rows p size start (acts ++ Returned w t ∷ []) f
  told_returned acts f w t r = record { state = r.state; leads = leads_returned p size start acts w t r.state r.leads; frame = r.frame }

  -- an entry that asks nothing leaves every task
  pub told_unanswered : (acts : List Act) (f new : Frame B) (e : Entry) (need : Need B) → IsToldRun rows p size start acts f → frame_step p f e need ≡ Some new → asks_nothing e.kind ≡ true
      → IsToldRun rows p size start (acts ++ Made e ∷ []) new × ((t : ℕ) (k : Task) → TaskIs p size start acts t k → TaskIs p size start (acts ++ Made e ∷ []) t k)
  told_unanswered acts f new e need r i asks =
      let leads : Leads p size start (journal_of (acts ++ Made e ∷ [])) (unanswered rows r.state new) =
      leads_made p size start acts e r.state (unanswered rows r.state new) r.leads (unanswered_step rows p size r.state f new e need r.frame i asks) in (
        record { state = unanswered rows r.state new; leads = leads; frame = refl },
        λ t k is. record { state = unanswered rows r.state new; leads = leads; same = task_at p size start acts t k r.state r.leads is },
      )

  -- an entry by the need of the task that its worker has
  pub told_answered : (acts : List Act) (f new : Frame B) (e : Entry) (need : Need B) (k : Task) (w : Wait) → IsShape p → IsStart p size limit start → IsToldRun rows p size start acts f
      → TaskIs p size start acts e.task k → Settles size k w → w.need ≡ map_need rows need → frame_step p f e need ≡ Some new → asks_nothing e.kind ≡ false
      → IsToldRun rows p size start (acts ++ Made e ∷ []) new × TaskIs p size start (acts ++ Made e ∷ []) e.task (task_after w (option_map (map_reply rows) (reply_of p f e.task e.kind need)))
  told_answered acts f new e need k w shape first r is settles n i asks =
      let at : place_of f e.task ≡ OwnedBy e.worker = step_owner p f new e need asks i in
      let o : Option (Reply B) = reply_of p f e.task e.kind need in
      let s : State = answered rows r.state e w new o in
      let here : Settles size (the_task r.state.tasks e.task) w = subst (λ j. Settles size j w) (sym (task_at p size start acts e.task k r.state r.leads is)) settles in
      let leads : Leads p size start (journal_of (acts ++ Made e ∷ [])) s =
      leads_made p size start acts e r.state s r.leads (answered_step rows p size r.state f new e need r.frame i w asks here n) in
      let reached : IsReached p size limit start (journal_of acts) r.state = leads_reached p size limit start r.state (journal_of acts) shape first r.leads in
      let fine : Fine p (map Made (journal_of acts)) r.state.run.frame = leads_fine p size limit start r.state (journal_of acts) shape first r.leads in
      let placed : e.task < length r.state.run.frame.places = owned_inside r.state.run.frame.places e.task e.worker (ap (λ (g : Frame (List Cells)). place_of g e.task) r.frame ∙ at) in
      let inside : e.task < length r.state.tasks = subst (λ j. e.task < j) (fine.0.frame.tasks ∙ sym reached.long) placed in
      (record { state = s; leads = leads; frame = refl }, record { state = s; leads = leads; same = after_same r.state.tasks e.task w (option_map (map_reply rows) o) inside })
