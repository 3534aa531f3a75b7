-- Meaning: a run that is over, by its journal alone.
use Rattle.std.specs.Prelude.{ℕ, ◌<◌, ◌≡◌, ◌⊎◌, ◌==◌, Bool, true, false, ◌&&◌, ◌||◌, List, [], ◌∷◌, ◌++◌, length}
use Rattle.std.proofs.Common.{inl, inr, refl, sym, ap, ◌∙◌}
use Rattle.run_journal.specs.declared.entry.Entry.{Entry}
use Rattle.run_journal.specs.declared.entry.EntryKind.{EntryKind}
use Rattle.run_journal.specs.declared.entry.EntryKind.TheVariants.{Finished}
use Rattle.turn_cell.specs.Acts.{IsPrefix}
use Rattle.run_laws.specs.Loans.{is_failed}
use Rattle.run_core.specs.Given.{Given}

abbrev pub is_end : EntryKind → Bool
is_end Finished = true
is_end _ = false

abbrev pub some_failed : List Entry → Bool
some_failed [] = false
some_failed (e ∷ es) = is_failed e.kind || some_failed es

abbrev pub some_ends : ℕ → List Entry → Bool
some_ends t [] = false
some_ends t (e ∷ es) = ((e.task == t) && is_end e.kind) || some_ends t es

-- it has failed, or each task has finished
abbrev pub Over : Given → List Entry → Type 0
Over o entries = (some_failed entries ≡ true) ⊎ ((t : ℕ) → t < length o.shape.tasks → some_ends t entries ≡ true)

-- ------------------------------------------------------------ more entries keep it

or_more : (a b c : Bool) → (b ≡ true → c ≡ true) → a || b ≡ true → a || c ≡ true
or_more true b c f e = refl
or_more false b c f e = f e

failed_more : (xs ys : List Entry) → some_failed xs ≡ true → some_failed (xs ++ ys) ≡ true
failed_more [] ys e = cc
failed_more (x ∷ xs) ys e = or_more (is_failed x.kind) (some_failed xs) (some_failed (xs ++ ys)) (failed_more xs ys) e

ends_more : (t : ℕ) (xs ys : List Entry) → some_ends t xs ≡ true → some_ends t (xs ++ ys) ≡ true
ends_more t [] ys e = cc
ends_more t (x ∷ xs) ys e = or_more ((x.task == t) && is_end x.kind) (some_ends t xs) (some_ends t (xs ++ ys)) (ends_more t xs ys) e

pub stays_over : (o : Given) (before after : List Entry) → Over o before → IsPrefix before after → Over o after
stays_over o before after (inl e) p = inl (ap some_failed (sym p.1) ∙ failed_more before p.0 e)
stays_over o before after (inr h) p = inr (λ t i. ap (some_ends t) (sym p.1) ∙ ends_more t before p.0 (h t i))
