-- Meaning: the items of tables of CSV files: those of each file, a refusal as a fault that names table and file.
use Rattle.std.specs.Prelude.{ℕ, ◌+◌, Option, Some, None, Ok, Err, List, [], ◌∷◌, map}
use Rattle.dfx_outside.specs.Contents.{Contents, content}
use Rattle.dfx_value.specs.Items.{Item}
use Rattle.dfx_value.specs.declared.fault.ItemFault.{ItemFault}
use Rattle.dfx_value.specs.declared.fault.ItemFault.TheVariants.{Csv}
use Rattle.dfx_value.specs.declared.kind.Kind.{Kind}
use Rattle.csv_source.specs.CsvItems.{csv_items}
use Rattle.csv_source.specs.CsvItems as csv
use Rattle.csv_source.specs.declared.refused.CsvRefused.{CsvRefused}
use Rattle.csv_source.specs.declared.refused.CsvRefused.TheVariants as refused

-- a refused record of a table's file: the number of the refusal, the record behind the header and the column, from 1, or 0.
-- No file's items have the last two
abbrev pub fault_of : ℕ → ℕ → CsvRefused → ItemFault
fault_of table file (refused.Header fields) = Csv table file 1 0 0
fault_of table file (refused.Fields row) = Csv table file 2 row 0
fault_of table file (refused.NotUtf8 row) = Csv table file 3 row 0
fault_of table file (refused.Value row column) = Csv table file 4 row column
fault_of table file refused.Read = Csv table file 0 0 0
fault_of table file refused.NoMemory = Csv table file 0 0 0

abbrev pub item_of : ℕ → ℕ → csv.Item → Item
item_of table file (Ok row) = Ok row
item_of table file (Err e) = Err (fault_of table file e)

-- the items of a table's file; none where it isn't there
abbrev pub file_items : ℕ → List Kind → ℕ → Option (List ℕ) → List Item
file_items table kinds file None = []
file_items table kinds file (Some bytes) = map (item_of table file) (csv_items bytes kinds)

-- the items of each of a table's files, of which the first has this number
abbrev pub files_from : ℕ → List Kind → ℕ → List (Option (List ℕ)) → List (List Item)
files_from table kinds file [] = []
files_from table kinds file (c ∷ cs) = file_items table kinds file c ∷ files_from table kinds (file + 1) cs

-- the items of each of a table's files, by their paths
abbrev pub table_files : Contents → ℕ → List Kind → List (List ℕ) → List (List Item)
table_files all table kinds paths = files_from table kinds 0 (map (content all) paths)

-- the kinds of a table's columns, and the paths of its files
pub record CsvTable : Type 0 where
  pub kinds : List Kind
  pub paths : List (List ℕ)

-- the tables, of which the first has this number
abbrev pub tables_from : Contents → ℕ → List CsvTable → List (List (List Item))
tables_from all table [] = []
tables_from all table (t ∷ ts) = table_files all table t.kinds t.paths ∷ tables_from all (table + 1) ts

abbrev pub missing_by : ℕ → Option (List ℕ) → Option ℕ → Option ℕ
missing_by file None later = Some file
missing_by file (Some bytes) later = later

-- the number of the first path without a content, where the first path has this number
abbrev pub missing_from : Contents → ℕ → List (List ℕ) → Option ℕ
missing_from all file [] = None
missing_from all file (p ∷ ps) = missing_by file (content all p) (missing_from all (file + 1) ps)

abbrev pub missing : Contents → List (List ℕ) → Option ℕ
missing all paths = missing_from all 0 paths
