-- Meaning: tables whose rows are of their columns' kinds, and whose faults name their table and their file.
use Rattle.std.specs.Prelude.{ℕ, ◌≡◌, ◌==◌, ⊤, Bool, true, false, ◌&&◌}
use Rattle.std.specs.Prelude.{List, [], ◌∷◌, length, map, slice_get, slice_index_or, unwrap_or}
use Rattle.std.specs.List.{AllPass}
use Rattle.dfx_value.specs.KindedRows.{all_are}
use Rattle.dfx_value.specs.declared.fault.ItemFault.{ItemFault}
use Rattle.dfx_value.specs.declared.fault.ItemFault.TheVariants.{Evaluation, Csv, Arrow}
use Rattle.dfx_value.specs.declared.kind.Kind.{Kind}
use Rattle.logical_plan.specs.Items.{Item, rows, faults, concat}
use Rattle.logical_plan.specs.Body.{Tables}
use Rattle.csv_source.specs.TableItems.{CsvTable}

-- for each table its kinds: the rows of all its files are of them
abbrev pub TablesHave : List (List Kind) → Tables → Type 0
TablesHave [] [] = ⊤
TablesHave (ks ∷ more) (files ∷ tables) = (all_are ks (rows (concat files)) ≡ true) × TablesHave more tables
TablesHave _ _ = ⊥

-- the items of a table's file, by their numbers
abbrev pub file_at : Tables → ℕ → ℕ → List Item
file_at tables table file = slice_index_or (unwrap_or (slice_get tables table) []) file []

-- the fault is of this file of this table
abbrev pub names_file : ℕ → ℕ → ItemFault → Bool
names_file table file (Evaluation f) = false
names_file table file (Csv t n number row column) = t == table && n == file
names_file table file (Arrow t n number batch column place) = t == table && n == file

-- each fault of a file names its table and its number
abbrev pub FaultsAreNamed : Tables → Type 0
FaultsAreNamed tables = (table file : ℕ) → AllPass (names_file table file) (faults (file_at tables table file))

-- ---- tables of CSV files

abbrev pub table_kinds : List CsvTable → List (List Kind)
table_kinds = map (λ (t : CsvTable). t.kinds)

-- how many files each has
abbrev pub file_counts : List CsvTable → List ℕ
file_counts = map (λ (t : CsvTable). length t.paths)
