-- Words: that a job keeps fitting, by what others do and by its advance; clauses of traits cite these lemmas.
use Rattle.std.proofs.Common.{ℕ, ◌≡◌, inl, inr, sym, ap, ◌∙◌, subst, List, Option, Some}
use Rattle.turn_cell.specs.declared.act.Act.{Act}
use Rattle.turn_cell.specs.Acts.{Follows}
use Rattle.turn_cell.specs.Loans.{loan_follows}
use Rattle.task_shape.specs.Shape.{Shape}
use Rattle.core_frame.specs.Step.{Need, Fail}
use Rattle.logical_plan.specs.Items.{Cells}
use Rattle.tree_laws.specs.Tasks.{Task}
use Rattle.tree_laws.specs.Runs.{State}
use Rattle.run_laws.proofs.Kept.{task_stays}
use Rattle.run_tasks.specs.Stands.{fresh, waits, IsFor}
use Rattle.run_tasks.specs.Moved.{IsReady, Moved}
use Rattle.run_core.specs.Given.{Given}
use Rattle.run_core.specs.Fits.{IsOut, Fits, Sound}

-- a job that fits still does after acts of others
pub stays_fit : (B : Type 0) (o : Given) (suited : Type 0) (S : Task → Type 0) (need : Option (Need (List Cells))) (number worker : ℕ) (before now : List Act) → Fits o suited S need number worker before → Sound B o now
    → Follows worker before now → Fits o suited S need number worker now
stays_fit B o suited S need number worker before now fits sound follows = record {
  loan = loan_follows worker before now follows ∙ fits.loan;
  suits = fits.suits;
  told = λ start es. (let out = fits.told start es in let s = sound.told start es in record {
    task = out.task;
    is = task_stays o.shape o.size start o.limit s.0 before now worker number out.task sound.given.shape (sound.given.start start es) fits.loan follows out.is s.1;
    stands = out.stands;
  });
}

-- and after its advance, which makes it ask
pub advance_fits : {T : Type 0} (number : T → ℕ) (suits : T → Shape → Type 0) (need : T → Option (Need (List Cells))) (stands : T → ℕ → Task → Type 0) (o : Given) (before after : T) (worker : ℕ) (acts : List Act)
    → Fits o (suits before o.shape) (stands before o.size) (need before) (number before) worker acts → Moved number suits need stands before after
    → Fits o (suits after o.shape) (stands after o.size) (need after) (number after) worker acts × IsReady (need after) × (number after ≡ number before)
advance_fits {T} number suits need stands o before after worker acts fits m = (
  record {
    loan = fits.loan ∙ ap Some (sym m.same_number);
    suits = m.still_suits o.shape fits.suits;
    told = λ start es. subst (λ j. IsOut o start (stands after o.size) (need after) j acts) (sym m.same_number) (out start (fits.told start es));
  },
  m.ready,
  m.same_number,
)
  where
    unmoved : (k : Task) → after ≡ before → IsFor o.size (stands before o.size) (need before) k → IsFor o.size (stands after o.size) (need after) k
    unmoved k e h = subst (λ (z : T). IsFor o.size (stands z o.size) (need z) k) (sym e) h

    moved : (k : Task) → IsFor o.size (stands before o.size) (need before) k → IsFor o.size (stands after o.size) (need after) k
    moved k (inl (fresh none s)) = m.settles o.size k none s
    moved k (inl (waits w settles is s)) = unmoved k (m.same w.need is) (inl (waits w settles is s))
    moved k (inr b) = unmoved k (m.same (Fail b.cause) b.fails) (inr b)

    out : (start : State) → IsOut o start (stands before o.size) (need before) (number before) acts → IsOut o start (stands after o.size) (need after) (number before) acts
    out start h = record { task = h.task; is = h.is; stands = moved h.task h.stands }
