-- Tables of CSV files: their rows, their faults and the numbers of their files.
use Rattle.std.specs.Prelude.{slice_index_or}
use Rattle.std.specs.List.{list_all}
use Rattle.std.proofs.Common.{◌≡◌, refl, ℕ, zero, suc, ◌+◌, Bool, true, false, cond, eqb, eq-eqb, Option, Some, None, List, [], ◌∷◌, map, length, Ok, Err, subst, ap, ◌∙◌, arith}
use Rattle.std.proofs.lemmas.Bool.{and_from}
use Rattle.std.proofs.lemmas.List.Sums.{AllPass-from_list_all}
use Rattle.csv.specs.Reading.{records, default_config, strip_bom}
use Rattle.csv_source.specs.CsvItems.{and_then, items_from, items_under, csv_items, record_item}
use Rattle.csv_source.specs.CsvItems as csv
use Rattle.csv_source.specs.declared.refused.CsvRefused.{CsvRefused}
use Rattle.csv_source.specs.declared.refused.CsvRefused.TheVariants as refused
use Rattle.dfx_outside.specs.Contents.{Contents, content}
use Rattle.dfx_value.specs.Kinds.{are_of}
use Rattle.dfx_value.specs.KindedRows.{all_are}
use Rattle.dfx_value.specs.declared.kind.Kind.{Kind}
use Rattle.logical_plan.specs.Items.{Item, rows, faults, concat}
use Rattle.csv_source.specs.TableItems.{fault_of, item_of, file_items, files_from, CsvTable, tables_from}
use Rattle.kind_laws.specs.Tables.{TablesHave, file_at, names_file, FaultsAreNamed, table_kinds, file_counts}
use Rattle.kind_laws.proofs.Rows.{items_append}
use Rattle.kind_laws.proofs.Fields.{RecordFits, record_fits}

-- ---- rows

module _ (table file : ℕ) (ks : List Kind) where
  abbrev shown : List csv.Item → List Item
  shown = map (item_of table file)

  and_then_fits : (x : csv.Item) (more : List csv.Item) → RecordFits ks x → all_are ks (rows (shown more)) ≡ true → all_are ks (rows (shown (and_then x more))) ≡ true
  and_then_fits (Ok row) more p q = and_from (are_of ks row) (all_are ks (rows (shown more))) p q
  and_then_fits (Err e) more p q = refl

  records_fit : (n : ℕ) (rs : List (List (List ℕ))) → all_are ks (rows (shown (items_from ks n rs))) ≡ true
  records_fit n [] = refl
  records_fit n (r ∷ rs) = and_then_fits (record_item ks n r) (items_from ks (n + 1) rs) (record_fits ks n r) (records_fit (n + 1) rs)

  under_fits : (rs : List (List (List ℕ))) → all_are ks (rows (shown (items_under ks rs))) ≡ true
  under_fits [] = refl
  under_fits (header ∷ rs) = go (eqb (length header) (length ks)) where
    go : (b : Bool) → all_are ks (rows (shown (cond b (items_from ks 1 rs) (Err (refused.Header (length header)) ∷ [])))) ≡ true
    go true = records_fit 1 rs
    go false = refl

  file_fits : (c : Option (List ℕ)) → all_are ks (rows (file_items table ks file c)) ≡ true
  file_fits None = refl
  file_fits (Some bytes) = under_fits (records default_config (strip_bom bytes))

  -- ---- faults

  named : (e : CsvRefused) → names_file table file (fault_of table file e) ≡ true
  named (refused.Header fields) = and_from _ _ (eq-eqb table table refl) (eq-eqb file file refl)
  named (refused.Fields n) = and_from _ _ (eq-eqb table table refl) (eq-eqb file file refl)
  named (refused.NotUtf8 n) = and_from _ _ (eq-eqb table table refl) (eq-eqb file file refl)
  named (refused.Value n c) = and_from _ _ (eq-eqb table table refl) (eq-eqb file file refl)
  named refused.Read = and_from _ _ (eq-eqb table table refl) (eq-eqb file file refl)
  named refused.NoMemory = and_from _ _ (eq-eqb table table refl) (eq-eqb file file refl)

  shown_named : (xs : List csv.Item) → list_all (names_file table file) (faults (shown xs)) ≡ true
  shown_named [] = refl
  shown_named (Ok row ∷ xs) = shown_named xs
  shown_named (Err e ∷ xs) = and_from _ _ (named e) (shown_named xs)

  file_named : (c : Option (List ℕ)) → list_all (names_file table file) (faults (file_items table ks file c)) ≡ true
  file_named None = refl
  file_named (Some bytes) = shown_named (csv_items bytes ks)

files_fit : (table file : ℕ) (ks : List Kind) (cs : List (Option (List ℕ))) → all_are ks (rows (concat (files_from table ks file cs))) ≡ true
files_fit table file ks [] = refl
files_fit table file ks (c ∷ cs) =
    items_append ks (file_items table ks file c) (concat (files_from table ks (file + 1) cs)) (file_fits table file ks c) (files_fit table (file + 1) ks cs)

pub tables_fit : (all : Contents) (first : ℕ) (ts : List CsvTable) → TablesHave (table_kinds ts) (tables_from all first ts)
tables_fit all first [] = tt
tables_fit all first (t ∷ ts) = (files_fit first 0 t.kinds (map (content all) t.paths), tables_fit all (first + 1) ts)

-- ---- faults, by the numbers of table and file

files_named : (table first : ℕ) (ks : List Kind) (cs : List (Option (List ℕ))) (n : ℕ)
    → list_all (names_file table (first + n)) (faults (slice_index_or (files_from table ks first cs) n [])) ≡ true
files_named table first ks [] n = refl
files_named table first ks (c ∷ cs) zero =
    let e : first ≡ first + 0 = omega arith in
    subst (λ k. list_all (names_file table k) (faults (file_items table ks first c)) ≡ true) e (file_named table first ks c)
files_named table first ks (c ∷ cs) (suc n) =
    let e : first + 1 + n ≡ first + suc n = omega arith in
    subst (λ k. list_all (names_file table k) (faults (slice_index_or (files_from table ks (first + 1) cs) n [])) ≡ true) e (files_named table (first + 1) ks cs n)

tables_named_from : (all : Contents) (first : ℕ) (ts : List CsvTable) (n file : ℕ)
    → list_all (names_file (first + n) (0 + file)) (faults (file_at (tables_from all first ts) n file)) ≡ true
tables_named_from all first [] n file = refl
tables_named_from all first (t ∷ ts) zero file =
    let e : first ≡ first + 0 = omega arith in
    subst (λ k. list_all (names_file k (0 + file)) (faults (file_at (tables_from all first (t ∷ ts)) 0 file)) ≡ true) e (files_named first 0 t.kinds (map (content all) t.paths) file)
tables_named_from all first (t ∷ ts) (suc n) file =
    let e : first + 1 + n ≡ first + suc n = omega arith in
    subst (λ k. list_all (names_file k (0 + file)) (faults (file_at (tables_from all (first + 1) ts) n file)) ≡ true) e (tables_named_from all (first + 1) ts n file)

pub tables_named : (all : Contents) (ts : List CsvTable) → FaultsAreNamed (tables_from all 0 ts)
tables_named all ts n file =
    let e : 0 + n ≡ n = omega arith in
    let g : 0 + file ≡ file = omega arith in
    AllPass-from_list_all (names_file n file) (faults (file_at (tables_from all 0 ts) n file))
    (subst (λ k. list_all (names_file k file) (faults (file_at (tables_from all 0 ts) n file)) ≡ true) e
    (subst (λ k. list_all (names_file (0 + n) k) (faults (file_at (tables_from all 0 ts) n file)) ≡ true) g (tables_named_from all 0 ts n file)))

-- ---- how many files

files_counted : (table first : ℕ) (ks : List Kind) (cs : List (Option (List ℕ))) → length (files_from table ks first cs) ≡ length cs
files_counted table first ks [] = refl
files_counted table first ks (c ∷ cs) = ap suc (files_counted table (first + 1) ks cs)

contents_counted : (all : Contents) (paths : List (List ℕ)) → length (map (content all) paths) ≡ length paths
contents_counted all [] = refl
contents_counted all (p ∷ ps) = ap suc (contents_counted all ps)

pub tables_counted : (all : Contents) (first : ℕ) (ts : List CsvTable) → map length (tables_from all first ts) ≡ file_counts ts
tables_counted all first [] = refl
tables_counted all first (t ∷ ts) =
    ap (λ n. n ∷ map length (tables_from all (first + 1) ts)) (files_counted first 0 t.kinds (map (content all) t.paths) ∙ contents_counted all t.paths)
    ∙ ap (λ ns. length t.paths ∷ ns) (tables_counted all (first + 1) ts)
