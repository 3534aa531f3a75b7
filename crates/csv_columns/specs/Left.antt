-- Words: the items that a reader of records has left.
use Rattle.std.specs.Prelude.{ℕ, List, Option, option_map}
use Rattle.dfx_value.specs.declared.kind.Kind.{Kind}
use Rattle.csv_records.specs.Left.{Ahead, records_left}
use Rattle.csv_source.specs.CsvItems.{Item, items_from}

-- the items of the records that a reader has left, of which the first is the n-th, where the source tells its bytes
abbrev pub items_left : Option (List ℕ) → List Kind → ℕ → Ahead → Option (List Item)
items_left told kinds n r = option_map (items_from kinds n) (records_left told r)
