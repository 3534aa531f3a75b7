-- How many items a scan has left.
use Rattle.std.proofs.Common.{◌≡◌, ℕ, suc, ◌+◌, ◌^◌, ◌≤◌, List, [], ◌∷◌, length, Option, Some, None, option_map, true, Ok, Err, arith, ap, ◌<◌}
use Rattle.dfx_value.specs.declared.kind.Kind.{Kind}
use Rattle.csv_source.specs.CsvItems.{Item, items_from, and_then, record_item}
use Rattle.csv_source.specs.Records.{Fields, records_left}
use Rattle.csv_source.specs.ScanView.{left_count}
use Rattle.csv_source.specs.Scans.{Counts}
use Rattle.csv_source.specs.ScanView.{GivesRow}
use Rattle.csv_source.specs.Progress.{left_of, is_begun, IsSound}
use Rattle.csv_source.specs.declared.progress.Progress.{Progress}
use Rattle.csv_source.specs.declared.progress.Progress.TheVariants as progress

length-and_then : (i : Item) (more : List Item) → length (and_then i more) ≤ suc (length more)
length-and_then (Ok row) more = omega arith
length-and_then (Err e) more = omega arith

-- no more items than records
length-items_from : (kinds : List Kind) (n : ℕ) (rs : List Fields) → length (items_from kinds n rs) ≤ length rs
length-items_from kinds n [] = omega arith
length-items_from kinds n (r ∷ rs) = omega (arith, length-and_then (record_item kinds n r) (items_from kinds (n + 1) rs), length-items_from kinds (n + 1) rs)

few_records : (o : Option (List Fields)) (kinds : List Kind) (n : ℕ) → Counts o n → left_count (option_map (items_from kinds n) o) ≤ 2 ^ 64
few_records None kinds n c = absurd c
few_records (Some rs) kinds n c = omega (arith, length-items_from kinds n rs)

pub left_few : {R : Type 0} (remaining : R → Option (List ℕ)) (kinds : List Kind) (p : Progress R) → is_begun p ≡ true → IsSound remaining p → left_count (left_of remaining None kinds p) ≤ 2 ^ 64
left_few remaining kinds (progress.Reading b) begun sound = few_records (records_left remaining b.value.reader) kinds b.value.number sound.1
left_few remaining kinds progress.Ended begun sound = omega arith
left_few remaining kinds progress.Unread begun sound = cc
left_few remaining kinds progress.Refused begun sound = cc

pub ruleset left_steps = (left_few)

-- at the end nothing is left
pub row_at_end : (o : Option (List Item)) (now : Option (List Item)) → GivesRow o None now → GivesRow o None (Some [])
row_at_end None now g = absurd g
row_at_end (Some items) now g = g

pub ruleset step_steps = (row_at_end)

-- a row that was given is one item less
pub falls_by_row : (o now : Option (List Item)) (row : _) → GivesRow o (Some row) now → left_count now < left_count o
falls_by_row None now row g = absurd g
falls_by_row (Some items) None row g = absurd g
falls_by_row (Some items) (Some left) row g = omega (arith, ap length g)

pub ruleset scan_steps = (falls_by_row)
