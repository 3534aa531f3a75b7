-- For the tests: the entries that end a task, counted among acts.
use Rattle.std.proofs.Common.{◌≡◌, ℕ, List, [], ◌∷◌, cond, refl, ap, ◌+◌, ◌∙◌, arith}
use Rattle.std.specs.Prelude.{count_by, fold}
use Rattle.run_journal.specs.declared.entry.Entry.{Entry}
use Rattle.turn_cell.specs.declared.act.Act.{Act}
use Rattle.turn_cell.specs.declared.act.Act.TheVariants.{Made, Returned}
use Rattle.turn_cell.specs.Acts.{journal_of}
use Rattle.work_pool.specs.Jobs.{finished, ends_task, is_finish}

abbrev counted : ℕ → List Entry → ℕ
counted n entries = fold (λ a (e : Entry). a + cond (is_finish e.kind) 1 0) n entries

among : (n : ℕ) (acts : List Act) → fold (λ a (x : Act). a + cond (ends_task x) 1 0) n acts ≡ counted n (journal_of acts)
among n [] = refl
among n (Made entry ∷ acts) = among (n + cond (is_finish entry.kind) 1 0) acts
among n (Returned worker task ∷ acts) = among (n + 0) acts ∙ ap (λ (k : ℕ). counted k (journal_of acts)) (omega arith)

pub finished_among : (acts : List Act) → count_by (λ a. ends_task a) acts ≡ finished (journal_of acts)
finished_among acts = among 0 acts
