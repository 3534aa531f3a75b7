-- Words: what a scan has left, by how far it has come.
use Rattle.std.specs.Prelude.{Bool, true, false, ℕ, ◌+◌, ◌<◌, ◌^◌, List, [], Option, Some, None, option_map, ⊤}
use Rattle.dfx_value.specs.declared.kind.Kind.{Kind}
use Rattle.csv_records.specs.Left.{most_left}
use Rattle.csv_source.specs.CsvItems.{Item, csv_items}
use Rattle.csv_columns.specs.Left.{items_left}
use Rattle.csv_columns.specs.declared.progress.Progress.{Progress}
use Rattle.csv_columns.specs.declared.progress.Progress.TheVariants as progress

abbrev pub left_of : Option (List ℕ) → List Kind → Progress → Option (List Item)
left_of told kinds progress.Unread = option_map (λ bytes. csv_items bytes kinds) told
left_of told kinds (progress.Reading b) = items_left told kinds b.value.number b.value.reader
left_of told kinds progress.Ended = Some []
left_of told kinds progress.Refused = None

-- a bound on the rows that are left, from the source's size
abbrev pub most_of : ℕ → Progress → ℕ
most_of size progress.Unread = size
most_of size (progress.Reading b) = most_left size b.value.reader
most_of size progress.Ended = 0
most_of size progress.Refused = 0

abbrev pub is_refused : Progress → Bool
is_refused progress.Refused = true
is_refused progress.Unread = false
is_refused (progress.Reading b) = false
is_refused progress.Ended = false

-- the numbers of the records that are left fit
abbrev pub IsSound : ℕ → Progress → Type 0
IsSound size (progress.Reading b) = b.value.number + most_left size b.value.reader < 2 ^ 64
IsSound size progress.Unread = ⊤
IsSound size progress.Ended = ⊤
IsSound size progress.Refused = ⊤

-- something was read, and no call was refused
abbrev pub is_begun : Progress → Bool
is_begun progress.Unread = false
is_begun (progress.Reading b) = true
is_begun progress.Ended = true
is_begun progress.Refused = false
