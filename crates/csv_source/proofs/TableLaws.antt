-- The files of one table among all.
use Rattle.std.proofs.Common.{◌≡◌, ℕ, zero, suc, ◌+◌, List, [], ◌∷◌, Some, ap, ◌∙◌, slice_get, arith}
use Rattle.dfx_outside.specs.Contents.{Contents}
use Rattle.csv_source.specs.TableItems.{CsvTable, table_files, tables_from}

-- the table with a number has the items of its files under that number
pub tables-at : (all : Contents) (ts : List CsvTable) (first n : ℕ) (t : CsvTable) → slice_get ts n ≡ Some t → slice_get (tables_from all first ts) n ≡ Some (table_files all (first + n) t.kinds t.paths)
tables-at all [] first n t e = cc
tables-at all (x ∷ ts) first zero t e = let same : x ≡ t = (cc) in ap (λ (y : CsvTable). Some (table_files all first y.kinds y.paths)) same ∙ ap (λ k. Some (table_files all k t.kinds t.paths)) (let k : first ≡ first + 0 = omega arith in k)
tables-at all (x ∷ ts) first (suc n) t e = tables-at all ts (first + 1) n t e ∙ ap (λ k. Some (table_files all k t.kinds t.paths)) (let k : first + 1 + n ≡ first + suc n = omega arith in k)
