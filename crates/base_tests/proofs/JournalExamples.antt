-- Worked examples of the text of a journal, by computing: the causes of failures with their numbers. That of a scan stands in run_journal.
use Rattle.std.specs.Prelude.{codes}
use Rattle.std.proofs.Common.{◌≡◌, refl, [], ◌∷◌}
use Rattle.std.specs.Fmt.{digits}
use Rattle.dfx_value.specs.declared.fault.EvalFault.TheVariants.{DivideByZero}
use Rattle.run_journal.specs.declared.cause.Cause.{Cause}
use Rattle.run_journal.specs.declared.cause.Cause.TheVariants.{NoMemory, Evaluation, Csv, Arrow, Exhausted}
use Rattle.run_journal.specs.declared.entry.Entry.{Entry}
use Rattle.run_journal.specs.declared.entry.EntryKind.TheVariants.{Failed}
use Rattle.run_journal.specs.declared.journal.Journal.{Journal}
use Rattle.run_journal.specs.JournalText.{journal_text, line, setting}

abbrev by : Cause → Entry
by cause = record { worker = 0; task = 0; kind = Failed cause }

abbrev failures : Journal
failures = record {
  partitions = 4;
  batch = 8192;
  limit = 1073741824;
  entries = by NoMemory ∷ by (Evaluation DivideByZero) ∷ by (Csv 1 4 2 3) ∷ by (Arrow 0 8 5 6 70) ∷ by (Exhausted 32 0 1) ∷ [];
}

causes : journal_text failures ≡ codes "dfx-journal 1 partitions=4 batch=8192 limit=1073741824\n0 0 failed memory\n0 0 failed divide\n0 0 failed csv 1 4 2 3\n0 0 failed arrow 0 8 5 6 70\n0 0 failed exhausted 32 0 1\n"
unfolding line setting digits
causes = refl
