-- The items of records, one by one.
use Rattle.std.proofs.Common.{◌≡◌, refl, rules, IfOk, ℕ, zero, suc, add-one, Bool, false, ◌==◌, cond, eqb-true, drop, ◌+◌, ◌≤◌, ◌<◌, true, List, [], ◌∷◌, ◌++◌, length, map, Option, Some, None, option_map, Result, Ok, Err, ap, sym, ◌∙◌, arith}
use Rattle.std.proofs.Math.Seq.{take-append_seam, drop-append_seam}
use Rattle.std.proofs.lemmas.List.{take_all, drop_all, append-nil, length-map}
use Rattle.dfx_value.specs.declared.kind.Kind.{Kind}
use Rattle.dfx_value.specs.declared.value.Value.{Value as Cell}
use Rattle.value_columns.specs.Columns.{KindedValues}
use Rattle.column_batch.specs.Batches.{kinds_of, rows_from, row_at}
use Rattle.column_batch.specs.Parts.{all_with, empties}
use Rattle.column_batch.proofs.BuilderLemmas.{kinds-all_with, rows-before, row_at-last, fills-pushed, fills-empties}
use Rattle.dfx_value.specs.Checked.{◌>>=◌}
use Rattle.csv_columns.specs.Filled.{with_record, Even}
use Rattle.csv_columns.proofs.ExtendSteps.{extend_steps}
use Rattle.csv_source.specs.declared.refused.CsvRefused.{CsvRefused}
use Rattle.csv_source.specs.declared.refused.CsvRefused.TheVariants as refused
use Rattle.csv_source.specs.CsvItems.{Item, items_from, record_item, cells_from, field_value}
use Rattle.csv_records.specs.Left.{Ahead, Fields, Takes, HasNone, records_left, records_at, between}
use Rattle.csv_source.specs.Scans.{rows_then}
use Rattle.csv_source.specs.ScanView.{GivesRows}
use Rattle.csv_columns.specs.ScanView.{IsRefusedBehind}
use Rattle.csv_columns.specs.Left.{items_left}
use Rattle.csv_columns.specs.declared.reading.Given.{Given}

same_items : (xs ys : List Item) → Some xs ≡ Some ys → xs ≡ ys
same_items xs ys e = (cc)

pub items_none : (o now : Option (List Fields)) (kinds : List Kind) (n : ℕ) (items : List Item) → HasNone o → option_map (items_from kinds n) o ≡ Some items → items ≡ []
items_none None now kinds n items h e = cc
items_none (Some rs) now kinds n items h e = sym (same_items _ _ e) ∙ rw h refl

moved : (rows : List (List Cell)) (row : List Cell) (items : List Item) → map Ok (rows ++ row ∷ []) ++ items ≡ map Ok rows ++ Ok row ∷ items
moved [] row items = refl
moved (r ∷ rs) row items = ap (λ (xs : List Item). Ok r ∷ xs) (moved rs row items)

pub items_refused : (o now : Option (List Fields)) (kinds : List Kind) (n : ℕ) (fields : Fields) (e : _) (items : List Item)
    → Takes o fields now → record_item kinds n fields ≡ Err e → option_map (items_from kinds n) o ≡ Some items → items ≡ Err e ∷ []
items_refused None now kinds n fields e items t h is = cc
items_refused (Some []) now kinds n fields e items t h is = absurd t
items_refused (Some (r ∷ rs)) now kinds n fields e items t h is = sym (same_items _ _ is) ∙ rw (t.0, h) refl

-- the rows of a whole batch, of a last one, and of one in which a record is refused
length-oks : (rows : List (List Cell)) → length (map {B = Item} Ok rows) ≡ length rows
length-oks [] = refl
length-oks (r ∷ rs) = ap suc (length-oks rs)

pub gives_full : (count : ℕ) (items : List Item) (rows : List (List Cell)) (now start : Option (List Item))
    → option_map (rows_then rows) now ≡ start → start ≡ Some items → length rows ≡ count → GivesRows count items rows now
gives_full count items rows None start e is full = cc
gives_full count items rows (Some left) start e is full =
    let whole : map Ok rows ++ left ≡ items = (cc) in
    let size : length (map {B = Item} Ok rows) ≡ count = length-oks rows ∙ full in
    record { next = rw (← whole, ← size) (sym (take-append_seam (map Ok rows) left)); rest = rw (← whole, ← size) (ap Some (sym (drop-append_seam (map Ok rows) left))) }

same_some : (x y : List Item) → Some x ≡ Some y → x ≡ y
same_some x y e = (cc)

joined : (items : List Item) (rows : List (List Cell)) (tail : List Item) (now start : Option (List Item))
    → now ≡ Some tail → option_map (rows_then rows) now ≡ start → start ≡ Some items → map Ok rows ++ tail ≡ items
joined items rows tail now start last e is = same_some (map Ok rows ++ tail) items ((rw last at e) ∙ is)

pub gives_short : (count : ℕ) (items : List Item) (rows : List (List Cell)) (now start : Option (List Item))
    → ((xs : List Item) → now ≡ Some xs → xs ≡ []) → option_map (rows_then rows) now ≡ start → start ≡ Some items → length rows ≤ count → GivesRows count items rows (Some [])
gives_short count items rows None start none e is short = cc
gives_short count items rows (Some xs) start none e is short =
    let whole : map Ok rows ≡ items = sym (append-nil (map Ok rows)) ∙ joined items rows [] (Some xs) start (ap Some (none xs refl)) e is in
    let size : length items ≤ count = omega (arith, ap length whole, length-oks rows) in
    record { next = whole ∙ sym (take_all count items size); rest = ap Some (sym (drop_all count items size)) }

pub refused_after : (count : ℕ) (items : List Item) (rows : List (List Cell)) (now start : Option (List Item)) (e : _)
    → ((xs : List Item) → now ≡ Some xs → xs ≡ Err e ∷ []) → option_map (rows_then rows) now ≡ start → start ≡ Some items → length rows < count → IsRefusedBehind count items rows e
refused_after count items rows None start e last whole is few = cc
refused_after count items rows (Some xs) start e last whole is few =
    record { few = few; is = sym (joined items rows (Err e ∷ []) (Some xs) start (ap Some (last xs refl)) whole is) }

-- ---- a record that goes to the ends of columns

length_cells : (n c : ℕ) (ks : List Kind) (fs : Fields) (vs : List Cell) → length fs ≡ length ks → cells_from n c ks fs ≡ Ok vs → length vs ≡ length ks
length_cells n c [] [] vs l h = let none : [] ≡ vs = (cc) in sym (ap length none)
length_cells n c [] (f ∷ fs) vs l h = absurd (omega arith)
length_cells n c (k ∷ ks) [] vs l h = absurd (omega arith)
length_cells n c (k ∷ ks) (f ∷ fs) vs l h =
    go (field_value n c k f) (cells_from n (c + 1) ks fs) (λ bs e. length_cells n (c + 1) ks fs bs (omega arith) e) refl h
  where
    go : (v : Result Cell CsvRefused) (r : Item) → ((bs : List Cell) → cells_from n (c + 1) ks fs ≡ Ok bs → length bs ≡ length ks) → cells_from n (c + 1) ks fs ≡ r → (v >>= λ a. r >>= λ b. Ok (a ∷ b)) ≡ Ok vs → length vs ≡ suc (length ks)
    go (Ok v) (Ok bs) rest e m =
        let is : v ∷ bs ≡ vs = (cc) in
        sym (ap length is) ∙ ap suc (rest bs e)
    go (Ok v) (Err x) rest e m = cc
    go (Err x) r rest e m = cc

length_row : (n : ℕ) (ks : List Kind) (fs : Fields) (row : List Cell) → record_item ks n fs ≡ Ok row → length row ≡ length ks
length_row n ks fs row h = go (length fs == length ks) refl h where
  go : (b : Bool) → (length fs == length ks) ≡ b → ◌≡◌ {A = Item} (cond b (cells_from n 1 ks fs) (Err (refused.Fields n))) (Ok row) → length row ≡ length ks
  go true e m = length_cells n 1 ks fs row (eqb-true (length fs) (length ks) e) m
  go false e m = cc

-- the row with which columns are filled
record Put (n : ℕ) (old new : List KindedValues) (fields : Fields) : Type 0 where
  row : List Cell
  item : record_item (kinds_of old) n fields ≡ Ok row
  filled : new ≡ all_with old row
  long : length row ≡ length old

put_of : (n : ℕ) (old new : List KindedValues) (fields : Fields) → with_record n old fields ≡ Ok new → Put n old new fields
put_of n old new fields h = go (record_item (kinds_of old) n fields) refl h where
  go : (r : Item) → record_item (kinds_of old) n fields ≡ r → (r >>= λ row. Ok (all_with old row)) ≡ Ok new → Put n old new fields
  go (Ok row) e m =
      let is : all_with old row ≡ new = (cc) in
      record { row = row; item = e; filled = sym is; long = length_row n (kinds_of old) fields row e ∙ length-map old (λ (c : KindedValues). c.kind) }
  go (Err x) e m = absurd (let none : ⊥ = (cc) in none)

pub kinds_put : (n : ℕ) (old new : List KindedValues) (fields : Fields) → with_record n old fields ≡ Ok new → kinds_of new ≡ kinds_of old
kinds_put n old new fields h =
    let put = put_of n old new fields h in
    rw put.filled (kinds-all_with old put.row)

pub even_put : (n k : ℕ) (old new : List KindedValues) (fields : Fields) → with_record n old fields ≡ Ok new → Even k old → Even (k + 1) new
even_put n k old new fields h even =
    let put = put_of n old new fields h in
    rw put.filled (fills-pushed old put.row k even put.long)

rows_from-more : (cs : List KindedValues) (from n : ℕ) → rows_from cs from (suc n) ≡ rows_from cs from n ++ row_at cs (from + n) ∷ []
rows_from-more cs from zero = ap (λ (k : ℕ). row_at cs k ∷ []) (omega arith)
rows_from-more cs from (suc n) = ap (λ t. row_at cs from ∷ t) (rows_from-more cs (suc from) n ∙ ap (λ (k : ℕ). rows_from cs (suc from) n ++ row_at cs k ∷ []) (omega arith))

rows_more : (k : ℕ) (cs : List KindedValues) (row : List Cell) → Even k cs → length row ≡ length cs → rows_from (all_with cs row) 0 (k + 1) ≡ rows_from cs 0 k ++ row ∷ []
rows_more k cs row even long =
    ap (rows_from (all_with cs row) 0) (add-one k)
    ∙ rows_from-more (all_with cs row) 0 k
    ∙ ap (λ t. t ++ row_at (all_with cs row) (0 + k) ∷ []) (rows-before cs row k (λ j d l. omega (arith, even j d l)))
    ∙ ap (λ r. rows_from cs 0 k ++ r ∷ []) (ap (row_at (all_with cs row)) (omega arith) ∙ row_at-last cs row k even long)

-- the row of the next record goes from the items to the rows
pub rows_put : (told : Option (List ℕ)) (before after : Ahead) (n m k : ℕ) (old new : List KindedValues) (fields : Fields)
    → Takes (records_left told before) fields (records_left told after) → with_record n old fields ≡ Ok new → Even k old → m ≡ n + 1
    → option_map (rows_then (rows_from new 0 (k + 1))) (items_left told (kinds_of old) m after) ≡ option_map (rows_then (rows_from old 0 k)) (items_left told (kinds_of old) n before)
rows_put None before after n m k old new fields t h even next = refl
rows_put (Some v) before after n m k old new fields t h even next = go (records_at (between before.after_cr) (before.bytes ++ drop before.at v)) (records_left (Some v) after) t where
  go : (rs : List Fields) (now : Option (List Fields)) → Takes (Some rs) fields now
      → option_map (rows_then (rows_from new 0 (k + 1))) (option_map (items_from (kinds_of old) m) now) ≡ option_map (rows_then (rows_from old 0 k)) (option_map (items_from (kinds_of old) n) (Some rs))
  go [] now t = absurd t
  go (r ∷ rs) now t =
      let put = put_of n old new fields h in
      let rows : rows_from new 0 (k + 1) ≡ rows_from old 0 k ++ put.row ∷ [] =
      ap (λ (cs : List KindedValues). rows_from cs 0 (k + 1)) put.filled ∙ rows_more k old put.row even put.long in
      rw (t.1, t.0, put.item, rows, next) (ap Some (moved (rows_from old 0 k) put.row (items_from (kinds_of old) (n + 1) rs)))

pub record_refused : (n : ℕ) (old : List KindedValues) (fields : Fields) (e : CsvRefused) (o now : Option (List Fields)) (items : List Item)
    → Takes o fields now → with_record n old fields ≡ Err e → option_map (items_from (kinds_of old) n) o ≡ Some items → items ≡ Err e ∷ []
record_refused n old fields e o now items t h is = items_refused o now (kinds_of old) n fields e items t (go (record_item (kinds_of old) n fields) h) is where
  go : (r : Item) → (r >>= λ row. Ok (all_with old row)) ≡ Err e → r ≡ Err e
  go (Ok row) m = cc
  go (Err x) m = (let same : x ≡ e = (cc) in ap Err same)

-- ---- a batch that is given

pub given_gives : {E : Type 0} (r : Result Given E) (count : ℕ) (items : List Item) (rows : List (List Cell)) (ended : Bool) (later : Option (List Item))
    → IfOk r (λ given. given.batch.rows ≡ rows) → IfOk r (λ given. given.ended ≡ ended) → GivesRows count items rows (cond ended (Some []) later)
    → IfOk r (λ given. GivesRows count items given.batch.rows (cond given.ended (Some []) later))
given_gives (Ok given) count items rows ended later a b h = rw (a, b) h
given_gives (Err e) count items rows ended later a b h = search rules

pub given_falls : {E : Type 0} (r : Result Given E) (rows : List (List Cell)) (ended : Bool) (left most : ℕ)
    → IfOk r (λ given. given.batch.rows ≡ rows) → IfOk r (λ given. given.ended ≡ ended) → length rows + cond ended 0 left ≤ most
    → IfOk r (λ given. length given.batch.rows + cond given.ended 0 left ≤ most)
given_falls (Ok given) rows ended left most a b h = rw (a, b) h
given_falls (Err e) rows ended left most a b h = search rules

pub rows_none : (o : Option (List Item)) → option_map (rows_then []) o ≡ o
rows_none None = refl
rows_none (Some items) = refl

pub even_none : (kinds : List Kind) → Even 0 (empties kinds)
even_none kinds = (fills-empties kinds).even refl

pub ruleset row_steps = (kinds_put, even_put, rows_put, record_refused, items_none, extend_steps)

pub ruleset batch_steps = (gives_full, gives_short, refused_after)
