-- Meaning: how a task's output leaves it: it is written, or sent.
use Rattle.std.specs.Prelude.{◌≡◌, Bool, true, false, None}
use Rattle.run_journal.specs.declared.entry.EntryKind.{EntryKind}
use Rattle.run_journal.specs.declared.entry.EntryKind.TheVariants.{Sent, Held, Dropped}
use Rattle.tree_laws.specs.Tasks.{Task}

-- only a task that writes its rows has a header to write
abbrev pub HeadsOwn : Task → Type 0
HeadsOwn k = k.header ≡ true → k.split ≡ None

-- an entry of a need to send
abbrev pub is_of_send : EntryKind → Bool
is_of_send Sent = true
is_of_send Held = true
is_of_send Dropped = true
is_of_send _ = false
