-- A reached state of a run of tasks: its frame is lawful, and its loans are those of its entries.
use Rattle.std.proofs.Common.{ℕ, ◌≡◌, refl, sym, ap, ◌∙◌, subst, cond, eqb, List, [], ◌∷◌, map, Bool, true, false, Some}
use Rattle.run_journal.specs.declared.entry.Entry.{Entry}
use Rattle.task_shape.specs.Shape.{Shape, IsShape}
use Rattle.history_laws.specs.Histories.{begun, frame_in}
use Rattle.history_laws.proofs.Laws.{same_frames}
use Rattle.tree_laws.specs.Runs.{State, IsStart, IsReached}
use Rattle.tree_laws.proofs.Runs
use Rattle.turn_cell.specs.declared.act.Act.{Act}
use Rattle.turn_cell.specs.declared.act.Act.TheVariants.{Made, Returned}
use Rattle.turn_cell.specs.Acts.{acts_by, journal_of, Follows, JournalFollows}
use Rattle.turn_cell.specs.Loans.{last_loan, loan_of}
use Rattle.turn_cell.proofs.Journals.{journal_follows}
use Rattle.tree_laws.specs.Settles.{Leads}
use Rattle.run_laws.specs.Others.{IsLeft}
use Rattle.tree_laws.proofs.Settles.{leads_front}
use Rattle.run_laws.proofs.Owners.{follows_leave}
use Rattle.run_laws.proofs.Loans.{Fine, loans_replay}

pub leads_reached : (p : Shape) (size limit : ℕ) (start s : State) (entries : List Entry) → IsShape p → IsStart p size limit start → Leads p size start entries s → IsReached p size limit start entries s
leads_reached p size limit start s entries shape first leads = Runs.reached p shape size leads.0 limit start first entries s leads.1

reached_fine : (p : Shape) (size limit : ℕ) (start s : State) (entries : List Entry) → IsShape p → IsReached p size limit start entries s → Fine p (map Made entries) s.run.frame
reached_fine p size limit start s entries shape r =
    subst (λ es. Fine p (map Made es) s.run.frame) r.same
    (loans_replay p limit r.steps s.run.frame shape r.own (sym (same_frames p r.steps (Some (begun p limit))) ∙ ap frame_in r.run))

pub leads_fine : (p : Shape) (size limit : ℕ) (start s : State) (entries : List Entry) → IsShape p → IsStart p size limit start → Leads p size start entries s → Fine p (map Made entries) s.run.frame
leads_fine p size limit start s entries shape first leads = reached_fine p size limit start s entries shape (leads_reached p size limit start s entries shape first leads)

-- ------------------------------------------------------------ a loan by acts is one by the entries alone
made_last : (a : Act) (xs : List Act) (t : ℕ) → last_loan (a ∷ xs) ≡ Some t → last_loan (map Made (journal_of (a ∷ xs))) ≡ Some t
made_last (Made e) [] t l = l
made_last (Returned w u) [] t l = cc
made_last (Made e) (b ∷ xs) t l = also (map Made (journal_of (b ∷ xs))) (made_last b xs t l)
  where
    also : (ys : List Act) → last_loan ys ≡ Some t → last_loan (Made e ∷ ys) ≡ Some t
    also [] m = cc
    also (y ∷ ys) m = m
made_last (Returned w u) (b ∷ xs) t l = made_last b xs t l

made_loan : (xs : List Act) (t : ℕ) → last_loan xs ≡ Some t → last_loan (map Made (journal_of xs)) ≡ Some t
made_loan [] t l = l
made_loan (a ∷ xs) t l = made_last a xs t l

made_by : (w : ℕ) (xs : List Act) → acts_by w (map Made (journal_of xs)) ≡ map Made (journal_of (acts_by w xs))
made_by w [] = refl
made_by w (Made e ∷ xs) = by (eqb e.worker w) (made_by w xs)
  where
    by : (b : Bool) → acts_by w (map Made (journal_of xs)) ≡ map Made (journal_of (acts_by w xs))
        → cond b (Made e ∷ acts_by w (map Made (journal_of xs))) (acts_by w (map Made (journal_of xs))) ≡ map Made (journal_of (cond b (Made e ∷ acts_by w xs) (acts_by w xs)))
    by true h = ap (λ (l : List Act). Made e ∷ l) h
    by false h = h
made_by w (Returned v u ∷ xs) = by (eqb v w) (made_by w xs)
  where
    by : (b : Bool) → acts_by w (map Made (journal_of xs)) ≡ map Made (journal_of (acts_by w xs))
        → acts_by w (map Made (journal_of xs)) ≡ map Made (journal_of (cond b (Returned v u ∷ acts_by w xs) (acts_by w xs)))
    by true h = h
    by false h = h

pub loan_made : (w t : ℕ) (acts : List Act) → loan_of w acts ≡ Some t → loan_of w (map Made (journal_of acts)) ≡ Some t
loan_made w t acts l = ap last_loan (made_by w acts) ∙ made_loan (acts_by w acts) t l

-- ------------------------------------------------------------ what others do leaves a worker its loan
pub loan_stays : (p : Shape) (size limit : ℕ) (start new : State) (before now : List Act) (w t : ℕ) → IsShape p → IsStart p size limit start
    → loan_of w before ≡ Some t → Follows w before now → Leads p size start (journal_of now) new
    → (s : State) × Leads p size start (journal_of before) s × IsLeft w t s new × (loan_of w now ≡ Some t)
loan_stays p size limit start new before now w t shape first loan follows leads =
    let journal : JournalFollows w (journal_of before) (journal_of now) = journal_follows w before now follows in
    let front : (s : State) × Leads p size start (journal_of before) s × Leads p size s journal.0.0 new =
    leads_front p size start new (journal_of before) journal.0.0 (subst (λ es. Leads p size start es new) (sym journal.0.1) leads) in
    let fine : Fine p (map Made (journal_of before)) front.0.run.frame = leads_fine p size limit start front.0 (journal_of before) shape first front.1 in (
      front.0,
      front.1,
      follows_leave p size start front.0 new (journal_of before) (journal_of now) w t fine.0 (fine.1.place w t (loan_made w t before loan)) front.1 leads journal,
      ap last_loan follows.1 ∙ loan,
    )
