use Rattle.std.proofs.Common.{◌≡◌, ◌++◌, drop}
use Rattle.std.specs.String.{string_bytes}
use Rattle.run_journal.specs.JournalText.{lines, journal_text}
use Rattle.run_journal.proofs.text.journal_text.Given as goal

-- what is written and the lines that are left make the whole
abbrev pub invariant-loop-entry : goal.invariant-loop-entry
invariant-loop-entry l = string_bytes l.text ++ lines (drop l.entry-index l.journal.entries) ≡ journal_text l.journal
