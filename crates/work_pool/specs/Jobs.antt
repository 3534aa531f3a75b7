-- Words: for the tests, how many entries end a task.
use Rattle.std.specs.Prelude.{ℕ, Bool, true, false, List, count_by}
use Rattle.std.proofs.Common.{◌≤◌, cond, ap, arith}
use Rattle.std.proofs.lemmas.List.Sums.{sum_by-append}
use Rattle.run_journal.specs.declared.entry.Entry.{Entry}
use Rattle.run_journal.specs.declared.entry.EntryKind.{EntryKind}
use Rattle.run_journal.specs.declared.entry.EntryKind.TheVariants.{Finished}
use Rattle.turn_cell.specs.declared.act.Act.{Act}
use Rattle.turn_cell.specs.declared.act.Act.TheVariants.{Made, Returned}
use Rattle.turn_cell.specs.Acts.{IsPrefix}

abbrev pub is_finish : EntryKind → Bool
is_finish Finished = true
is_finish _ = false

abbrev pub finished : List Entry → ℕ
finished entries = count_by (λ e. is_finish e.kind) entries

abbrev pub ends_task : Act → Bool
ends_task (Made entry) = is_finish entry.kind
ends_task (Returned worker task) = false

pub finished_more : (o : ℕ) (before after : List Entry) → o ≤ finished before → IsPrefix before after
    → o ≤ finished after
finished_more o before after enough p =
    omega (arith, enough, sum_by-append (λ (e : Entry). cond (is_finish e.kind) 1 0) before p.0, ap finished p.1)
