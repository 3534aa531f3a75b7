-- Meaning: the text of a journal: a line of settings, then a line for each entry.
use Rattle.std.specs.Prelude.{ℕ, List, [], ◌∷◌, ◌++◌, codes}
use Rattle.std.specs.Fmt.{decimal}
use Rattle.dfx_value.specs.declared.fault.EvalFault.{EvalFault}
use Rattle.dfx_value.specs.declared.fault.EvalFault.TheVariants.{Overflow, DivideByZero, CastRefused}
use Rattle.run_journal.specs.declared.cause.Cause.{Cause}
use Rattle.run_journal.specs.declared.cause.Cause.TheVariants.{Read, Write, Spill, NoMemory, Evaluation, Csv, Arrow, Exhausted}
use Rattle.run_journal.specs.declared.entry.Entry.{Entry}
use Rattle.run_journal.specs.declared.entry.EntryKind.{EntryKind}
use Rattle.run_journal.specs.declared.entry.EntryKind.TheVariants.{Claimed, Scanned, Received, Empty, Ended, Sent, Held, Dropped, Granted, Refused, Freed, Wrote, Yielded, Finished, Failed}
use Rattle.run_journal.specs.declared.journal.Journal.{Journal}

-- a number after a space
abbrev pub spaced : ℕ → List ℕ
spaced n = codes " " ++ decimal n

abbrev pub fault_text : EvalFault → List ℕ
fault_text Overflow = codes "overflow"
fault_text DivideByZero = codes "divide"
fault_text CastRefused = codes "cast"

abbrev pub cause_text : Cause → List ℕ
cause_text Read = codes "read"
cause_text Write = codes "write"
cause_text Spill = codes "spill"
cause_text NoMemory = codes "memory"
cause_text (Evaluation fault) = fault_text fault
cause_text (Csv source number row column) = codes "csv" ++ spaced source ++ spaced number ++ spaced row ++ spaced column
cause_text (Arrow source number batch column place) = codes "arrow" ++ spaced source ++ spaced number ++ spaced batch ++ spaced column ++ spaced place
cause_text (Exhausted requested held share) = codes "exhausted" ++ spaced requested ++ spaced held ++ spaced share

abbrev pub kind_text : EntryKind → List ℕ
kind_text Claimed = codes "claimed"
kind_text Scanned = codes "scanned"
kind_text Received = codes "received"
kind_text Empty = codes "empty"
kind_text Ended = codes "ended"
kind_text Sent = codes "sent"
kind_text Held = codes "held"
kind_text Dropped = codes "dropped"
kind_text Granted = codes "granted"
kind_text Refused = codes "refused"
kind_text Freed = codes "freed"
kind_text Wrote = codes "wrote"
kind_text Yielded = codes "yielded"
kind_text Finished = codes "finished"
kind_text (Failed cause) = codes "failed " ++ cause_text cause

-- worker, task and kind, and a line feed
unfoldable pub line : Entry → List ℕ
line e = decimal e.worker ++ spaced e.task ++ codes " " ++ kind_text e.kind ++ codes "\n"

abbrev pub lines : List Entry → List ℕ
lines [] = []
lines (e ∷ es) = line e ++ lines es

-- the name of a setting, and its number
unfoldable pub setting : List ℕ → ℕ → List ℕ
setting name n = name ++ decimal n

abbrev pub settings_line : ℕ → ℕ → ℕ → List ℕ
settings_line partitions batch limit = codes "dfx-journal 1" ++ (setting (codes " partitions=") partitions ++ (setting (codes " batch=") batch ++ (setting (codes " limit=") limit ++ codes "\n")))

abbrev pub journal_text : Journal → List ℕ
journal_text j = settings_line j.partitions j.batch j.limit ++ lines j.entries
