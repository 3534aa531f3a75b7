-- Words: what a scan has left, by how far it has come.
use Rattle.std.specs.Prelude.{Bool, true, false, ℕ, List, [], Option, Some, None, option_map, ⊤}
use Rattle.dfx_value.specs.declared.kind.Kind.{Kind}
use Rattle.csv_source.specs.CsvItems.{Item, csv_items}
use Rattle.csv_source.specs.Records.{IsSet, records_left}
use Rattle.csv_source.specs.Scans.{Counts, items_left}
use Rattle.csv_source.specs.declared.progress.Progress.{Progress}
use Rattle.csv_source.specs.declared.progress.Progress.TheVariants as progress

abbrev pub left_of : {R : Type 0} → (R → Option (List ℕ)) → Option (List ℕ) → List Kind → Progress R → Option (List Item)
left_of remaining told kinds progress.Unread = option_map (λ bytes. csv_items bytes kinds) told
left_of remaining told kinds (progress.Reading b) = items_left remaining kinds b.value.number b.value.reader
left_of remaining told kinds progress.Ended = Some []
left_of remaining told kinds progress.Refused = None

abbrev pub is_refused : {R : Type 0} → Progress R → Bool
is_refused progress.Refused = true
is_refused progress.Unread = false
is_refused (progress.Reading b) = false
is_refused progress.Ended = false

-- the reader is set, and the numbers of its records fit
abbrev pub IsSound : {R : Type 0} → (R → Option (List ℕ)) → Progress R → Type 0
IsSound remaining (progress.Reading b) = IsSet b.value.reader × Counts (records_left remaining b.value.reader) b.value.number
IsSound remaining progress.Unread = ⊤
IsSound remaining progress.Ended = ⊤
IsSound remaining progress.Refused = ⊤

-- something was read, and no call was refused
abbrev pub is_begun : {R : Type 0} → Progress R → Bool
is_begun progress.Unread = false
is_begun (progress.Reading b) = true
is_begun progress.Ended = true
is_begun progress.Refused = false
