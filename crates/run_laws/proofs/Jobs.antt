-- How a job fits: it is lent to its worker, and stands for its task. For jobs of any type, by what they stand for.
use Rattle.std.proofs.Common.{ℕ, ◌≡◌, ◌⊎◌, inl, inr, refl, sym, ap, ◌∙◌, subst, List, [], ◌∷◌, ◌++◌, true, false, Some, option_map}
use Rattle.run_journal.specs.declared.entry.Entry.{Entry}
use Rattle.run_journal.specs.declared.entry.EntryKind.TheVariants.{Claimed}
use Rattle.task_shape.specs.Shape.{Shape, IsShape}
use Rattle.core_frame.specs.Frame.{Frame}
use Rattle.core_frame.specs.Step.{Need, frame_step}
use Rattle.history_laws.specs.Histories.{reply_of}
use Rattle.logical_plan.specs.Items.{Cells}
use Rattle.tree_laws.specs.Tasks.{Task, Wait}
use Rattle.tree_laws.specs.Runs.{State, IsStart, asks_nothing}
use Rattle.turn_cell.specs.declared.act.Act.{Act}
use Rattle.turn_cell.specs.declared.act.Act.TheVariants.{Made}
use Rattle.turn_cell.specs.Acts.{journal_of, Follows}
use Rattle.turn_cell.specs.Loans.{keeps_task, loan_of, loan_follows}
use Rattle.core_frame.specs.Carried.{map_need}
use Rattle.history_laws.specs.Carried.{map_reply}
use Rattle.tree_laws.specs.Settles.{Settles, Leads}
use Rattle.run_laws.specs.Told.{task_after}
use Rattle.run_laws.specs.Kept.{IsToldRun, TaskIs}
use Rattle.tree_laws.proofs.Settles.{settle_again}
use Rattle.turn_cell.proofs.Loans.{loan_after}
use Rattle.run_laws.proofs.Loans.{kept_lent}
use Rattle.run_laws.proofs.Kept.{task_stays, told_answered, told_unanswered}

-- the number of a job's task; the task that it stands for, without a need; and what it waits for, with its need
module _ {J : Type 0} (number : J → ℕ) (stands : J → Task → Type 0) (waits : J → Wait → Type 0) (p : Shape) (size limit : ℕ) (start : State) where
  -- at the task's need
  abbrev pub AtNeed : J → Task → Type 0
  AtNeed j k = (v : Wait) × Settles size k v × waits j v

  pub record JobFits (j : J) (w : ℕ) (acts : List Act) : Type 0 where
    pub loan : loan_of w acts ≡ Some (number j)
    pub task : Task
    pub is : TaskIs p size start acts (number j) task
    pub stands_for : stands j task ⊎ AtNeed j task

  -- what `advance` does
  pub record Moves (before after : J) : Type 0 where
    pub same : number after ≡ number before
    pub settles : (k : Task) → stands before k → AtNeed after k
    pub rests : (v : Wait) → waits before v → waits after v

  -- what others do keeps it
  pub stays_fit : (j : J) (w : ℕ) (before now : List Act) (new : State) → IsShape p → IsStart p size limit start → JobFits j w before → Leads p size start (journal_of now) new → Follows w before now → JobFits j w now
  stays_fit j w before now new shape first fits leads follows = record {
    loan = loan_follows w before now follows ∙ fits.loan;
    task = fits.task;
    is = task_stays p size start limit new before now w (number j) fits.task shape first fits.loan follows fits.is leads;
    stands_for = fits.stands_for;
  }

  -- `advance` keeps it, and then the job is at its need
  pub advances : (before after : J) (w : ℕ) (acts : List Act) → JobFits before w acts → Moves before after → (fits : JobFits after w acts) × AtNeed after fits.task
  advances before after w acts fits moves =
      let need : AtNeed after fits.task = at fits.stands_for in (
        record {
          loan = fits.loan ∙ ap Some (sym moves.same);
          task = fits.task;
          is = subst (λ t. TaskIs p size start acts t fits.task) (sym moves.same) fits.is;
          stands_for = inr need;
        },
        need,
      )
    where
      at : stands before fits.task ⊎ AtNeed before fits.task → AtNeed after fits.task
      at (inl s) = moves.settles fits.task s
      at (inr v) = (v.0, v.1, moves.rests v.0 v.2)

  -- a task that is here is claimed
  pub claims : {B : Type 0} (rows : B → List Cells) (j : J) (acts : List Act) (f new : Frame B) (e : Entry) (need : Need B) (k : Task) → IsToldRun rows p size start acts f
      → TaskIs p size start acts e.task k → stands j k ⊎ AtNeed j k → number j ≡ e.task → e.kind ≡ Claimed → frame_step p f e need ≡ Some new → JobFits j e.worker (acts ++ Made e ∷ [])
  claims rows j acts f new e need k r is for same claim i = record {
    loan = loan_after e.worker acts (Made e) refl ∙ (kept_lent e (ap keeps_task claim) ∙ ap Some (sym same));
    task = k;
    is = subst (λ t. TaskIs p size start (acts ++ Made e ∷ []) t k) (sym same) ((told_unanswered rows p size limit start acts f new e need r i (ap asks_nothing claim)).1 e.task k is);
    stands_for = for;
  }

  -- a job at its need is served, and goes on as what stands for its task after the reply
  pub serves : {B : Type 0} (rows : B → List Cells) (j next : J) (acts : List Act) (f new : Frame B) (e : Entry) (need : Need B) (v : Wait) → IsShape p → IsStart p size limit start
      → IsToldRun rows p size start acts f → (fits : JobFits j e.worker acts) → Settles size fits.task v → v.need ≡ map_need rows need → number j ≡ e.task
      → frame_step p f e need ≡ Some new → asks_nothing e.kind ≡ false → keeps_task e.kind ≡ true
      → number next ≡ number j → stands next (task_after v (option_map (map_reply rows) (reply_of p f e.task e.kind need))) → JobFits next e.worker (acts ++ Made e ∷ [])
  serves rows j next acts f new e need v shape first told fits settles n same i asks keeps number_is for =
      let is : TaskIs p size start acts e.task fits.task = subst (λ t. TaskIs p size start acts t fits.task) same fits.is in
      record {
        loan = loan_after e.worker acts (Made e) refl ∙ (kept_lent e keeps ∙ ap Some (sym (number_is ∙ same)));
        task = task_after v (option_map (map_reply rows) (reply_of p f e.task e.kind need));
        is = subst (λ t. TaskIs p size start (acts ++ Made e ∷ []) t (task_after v (option_map (map_reply rows) (reply_of p f e.task e.kind need)))) (sym (number_is ∙ same))
            (told_answered rows p size limit start acts f new e need fits.task v shape first told is settles n i asks).1;
        stands_for = inl for;
      }

  -- a job that parks at a gate or a channel is at the need of the task that waited
  pub parks : (j : J) (k : Task) (v : Wait) → Settles size k v → waits j v → AtNeed j v.now
  parks j k v settles w = (v, (1, settle_again size settles.0 k v settles.1), w)
