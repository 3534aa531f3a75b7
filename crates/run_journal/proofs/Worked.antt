-- The journal of the README's example, computed from the definitions.
use Rattle.std.proofs.Common.{◌≡◌, refl, [], ◌∷◌, codes}
use Rattle.run_journal.specs.declared.entry.Entry.{Entry}
use Rattle.run_journal.specs.declared.entry.EntryKind.{EntryKind}
use Rattle.run_journal.specs.declared.entry.EntryKind.TheVariants.{Claimed, Scanned, Wrote, Finished}
use Rattle.run_journal.specs.declared.journal.Journal.{Journal}
use Rattle.std.specs.Fmt.{digits}
use Rattle.run_journal.specs.JournalText.{journal_text, line, setting}

by : EntryKind → Entry
by k = record { worker = 0; task = 0; kind = k }

one_scan : Journal
one_scan = record { partitions = 4; batch = 8192; limit = 1073741824; entries = by Claimed ∷ by Wrote ∷ by Scanned ∷ by Wrote ∷ by Finished ∷ [] }

its_text : journal_text one_scan ≡ codes "dfx-journal 1 partitions=4 batch=8192 limit=1073741824\n0 0 claimed\n0 0 wrote\n0 0 scanned\n0 0 wrote\n0 0 finished\n"
unfolding by one_scan line setting digits
its_text = refl
