-- Words: what a scan has left.
use Rattle.std.specs.Prelude.{◌+◌, ◌<◌, ◌^◌, ◌++◌, ℕ, List, length, map, Option, Some, None, option_map, Ok}
use Rattle.csv.specs.declared.reader.Reader.{Reader}
use Rattle.dfx_value.specs.declared.kind.Kind.{Kind}
use Rattle.dfx_value.specs.declared.value.Value.{Value as Cell}
use Rattle.csv_source.specs.CsvItems.{Item, items_from}
use Rattle.csv_source.specs.Records.{Fields, records_left}

-- the items of the records that a reader has left, of which the first is the n-th, where its bytes are known
abbrev pub items_left : {R : Type 0} → (R → Option (List ℕ)) → List Kind → ℕ → Reader R → Option (List Item)
items_left remaining kinds n r = option_map (items_from kinds n) (records_left remaining r)

-- the records are known, and their numbers fit 64 bits
abbrev pub Counts : Option (List Fields) → ℕ → Type 0
Counts None n = ⊥
Counts (Some rs) n = n + length rs < 2 ^ 64

-- rows, and then items
abbrev pub rows_then : List (List Cell) → List Item → List Item
rows_then rows items = map Ok rows ++ items
