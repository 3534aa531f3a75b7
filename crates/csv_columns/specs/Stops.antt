-- Words: why a scan gives no more rows, and what it gave in front of a refusal.
use Rattle.std.specs.Prelude.{ℕ, ◌≡◌, ◌≢◌, ◌≤◌, ◌<◌, ◌++◌, ◌∷◌, [], true, false, List, length, map, Ok, Err, ⊤}
use Rattle.dfx_value.specs.KindedRows.{KindedRows}
use Rattle.dfx_value.specs.declared.kind.Kind.{Kind}
use Rattle.dfx_value.specs.declared.value.Value.{Value as Cell}
use Rattle.csv_source.specs.CsvItems.{Item, is_bad}
use Rattle.csv_source.specs.declared.refused.CsvRefused.{CsvRefused}
use Rattle.csv_source.specs.declared.refused.CsvRefused.TheVariants as refused
use Rattle.csv_columns.specs.ScanView.{IsRefusedBehind}
use Rattle.csv_columns.specs.declared.reading.Stopped.{Stopped}
use Rattle.csv_columns.specs.declared.reading.Stopped.TheVariants as stopped

-- a refusal behind a batch: of the file, or of the call, also for want of memory
abbrev pub StopsAs : Stopped → KindedRows → CsvRefused → Type 0
StopsAs (stopped.Record given e) batch refusal = (given ≡ batch) × (e ≡ refusal) × (is_bad e ≡ true)
StopsAs (stopped.Call e) batch refusal = (is_bad e ≡ false) × (e ≡ refused.Read → refusal ≡ refused.Read)

-- among the next so many items
abbrev pub StopsIn : ℕ → List Item → Stopped → Type 0
StopsIn count items (stopped.Record given e) = IsRefusedBehind count items given.rows e
StopsIn count items (stopped.Call e) = ⊤

-- the batch has these kinds, and no more rows than so many
abbrev pub IsFront : List Kind → ℕ → Stopped → Type 0
IsFront kinds most (stopped.Record given e) = (given.kinds ≡ kinds) × (length given.rows ≤ most) × (is_bad e ≡ true)
IsFront kinds most (stopped.Call e) = is_bad e ≡ false

abbrev pub IsRead : Stopped → Type 0
IsRead (stopped.Record given e) = ⊥
IsRead (stopped.Call e) = e ≡ refused.Read

abbrev pub IsMemory : Stopped → Type 0
IsMemory (stopped.Record given e) = ⊥
IsMemory (stopped.Call e) = e ≡ refused.NoMemory
