-- The items of records, one by one.
use Rattle.std.proofs.Common.{◌≡◌, refl, ℕ, suc, ◌+◌, ◌^◌, ◌≤◌, ◌<◌, true, List, [], ◌∷◌, ◌++◌, length, map, Option, Some, None, option_map, Result, Ok, Err, ap, sym, ◌∙◌, arith, length-append}
use Rattle.std.proofs.Math.Seq.{take-append_seam, drop-append_seam}
use Rattle.std.proofs.lemmas.List.{take_all, drop_all, append-nil}
use Rattle.dfx_value.specs.declared.kind.Kind.{Kind}
use Rattle.dfx_value.specs.declared.value.Value.{Value as Cell}
use Rattle.csv_source.specs.declared.refused.CsvRefused.{CsvRefused}
use Rattle.csv_source.specs.declared.refused.CsvRefused.TheVariants as refused
use Rattle.csv_source.specs.CsvItems.{Item, items_from, record_item, is_bad}
use Rattle.csv_source.specs.Records.{Fields, Takes, HasNone}
use Rattle.csv_source.specs.Rows.{Gives}
use Rattle.csv_source.specs.ScanView.{left_count}
use Rattle.csv_source.specs.Scans.{Counts, rows_then}
use Rattle.csv_source.specs.ScanView.{GivesRow, GivesRows, IsRefused}

-- a record that was taken had a number that fits, and so has the next
pub number_fits : (o now : Option (List Fields)) (fields : Fields) (n : ℕ) → Takes o fields now → Counts o n → n + 1 < 2 ^ 64
number_fits None now fields n t c = absurd c
number_fits (Some []) now fields n t c = absurd t
number_fits (Some (r ∷ rs)) now fields n t c = omega arith

pub counts_after : (o now : Option (List Fields)) (fields : Fields) (n : ℕ) → Takes o fields now → Counts o n → Counts now (n + 1)
counts_after None now fields n t c = absurd c
counts_after (Some []) now fields n t c = absurd t
counts_after (Some (r ∷ rs)) now fields n t c = rw t.1 (omega arith)

pub items_none : (o : Option (List Fields)) (kinds : List Kind) (n : ℕ) → HasNone o → Counts o n → option_map (items_from kinds n) o ≡ Some []
items_none None kinds n h c = absurd c
items_none (Some rs) kinds n h c = rw h refl

moved : (rows : List (List Cell)) (row : List Cell) (items : List Item) → map Ok (rows ++ row ∷ []) ++ items ≡ map Ok rows ++ Ok row ∷ items
moved [] row items = refl
moved (r ∷ rs) row items = ap (λ (xs : List Item). Ok r ∷ xs) (moved rs row items)

-- the row of the next record is the first of the items
pub row_given : (o now : Option (List Fields)) (kinds : List Kind) (n : ℕ) (fields : Fields) (row : List Cell)
    → Takes o fields now → Counts o n → record_item kinds n fields ≡ Ok row → GivesRow (option_map (items_from kinds n) o) (Some row) (option_map (items_from kinds (n + 1)) now)
row_given None now kinds n fields row t c e = absurd c
row_given (Some []) now kinds n fields row t c e = absurd t
row_given (Some (r ∷ rs)) now kinds n fields row t c e = rw (t.1, t.0, e) refl

pub no_row_given : (o now : Option (List Item)) → GivesRow o None now → o ≡ Some []
no_row_given None now g = absurd g
no_row_given (Some items) now g = ap Some g

-- it goes from the items to the rows
pub row_moved : (o now : Option (List Item)) (rows : List (List Cell)) (row : List Cell) → GivesRow o (Some row) now
    → option_map (rows_then (rows ++ row ∷ [])) now ≡ option_map (rows_then rows) o
row_moved None now rows row g = absurd g
row_moved (Some items) None rows row g = absurd g
row_moved (Some items) (Some left) rows row g = rw g (ap Some (moved rows row left))

pub items_refused : (o now : Option (List Fields)) (kinds : List Kind) (n : ℕ) (fields : Fields) (e : _)
    → Takes o fields now → Counts o n → record_item kinds n fields ≡ Err e → option_map (items_from kinds n) o ≡ Some (Err e ∷ [])
items_refused None now kinds n fields e t c h = absurd c
items_refused (Some []) now kinds n fields e t c h = absurd t
items_refused (Some (r ∷ rs)) now kinds n fields e t c h = rw (t.0, h) refl

-- the rows of a whole batch, of a last one, and of one in which a record is refused
length-oks : (rows : List (List Cell)) → length (map {B = Item} Ok rows) ≡ length rows
length-oks [] = refl
length-oks (r ∷ rs) = ap suc (length-oks rs)

pub gives_full : (count : ℕ) (items : List Item) (rows : List (List Cell)) (now start : Option (List Item))
    → option_map (rows_then rows) now ≡ start → start ≡ Some items → length rows ≡ count → GivesRows count items rows now
gives_full count items rows None start e is full = cc
gives_full count items rows (Some left) start e is full =
    let whole : map Ok rows ++ left ≡ items = (cc) in
    let size : length (map {B = Item} Ok rows) ≡ count = length-oks rows ∙ full in
    record { next = rw (← whole, ← size) (sym (take-append_seam (map Ok rows) left)); rest = rw (← whole, ← size) (ap Some (sym (drop-append_seam (map Ok rows) left))) }

same_some : (x y : List Item) → Some x ≡ Some y → x ≡ y
same_some x y e = (cc)

joined : (items : List Item) (rows : List (List Cell)) (tail : List Item) (now start : Option (List Item))
    → now ≡ Some tail → option_map (rows_then rows) now ≡ start → start ≡ Some items → map Ok rows ++ tail ≡ items
joined items rows tail now start last e is = same_some (map Ok rows ++ tail) items ((rw last at e) ∙ is)

pub gives_short : (count : ℕ) (items : List Item) (rows : List (List Cell)) (now start : Option (List Item))
    → now ≡ Some [] → option_map (rows_then rows) now ≡ start → start ≡ Some items → length rows ≤ count → GivesRows count items rows (Some [])
gives_short count items rows now start none e is short =
    let whole : map Ok rows ≡ items = sym (append-nil (map Ok rows)) ∙ joined items rows [] now start none e is in
    let size : length items ≤ count = omega (arith, ap length whole, length-oks rows) in
    record { next = whole ∙ sym (take_all count items size); rest = ap Some (sym (drop_all count items size)) }

pub refused_after : (count : ℕ) (items : List Item) (rows : List (List Cell)) (now start : Option (List Item)) (e : _)
    → now ≡ Some (Err e ∷ []) → option_map (rows_then rows) now ≡ start → start ≡ Some items → length rows < count → IsRefused count items e
refused_after count items rows now start e last whole is few =
    record { rows = rows; few = few; is = sym (joined items rows (Err e ∷ []) now start last whole is) }

-- a refusal of the file is the one that the definition gives
pub gives_bad : (A : Type 0) (f : _) (wanted : Result A _) → Gives {A = A} (Err f) wanted → is_bad f ≡ true → wanted ≡ Err f
gives_bad A refused.NoMemory wanted h bad = cc
gives_bad A refused.Read wanted h bad = absurd h
gives_bad A (refused.Header n) wanted h bad = h
gives_bad A (refused.Fields n) wanted h bad = h
gives_bad A (refused.NotUtf8 n) wanted h bad = h
gives_bad A (refused.Value n c) wanted h bad = h

pub same_refusal : (A : Type 0) (e f : CsvRefused) → ◌≡◌ {A = Result A CsvRefused} (Err e) (Err f) → e ≡ f
same_refusal A e f h = (cc)

-- no row answers that the source failed
pub never_read : (A : Type 0) (f : CsvRefused) (wanted : Result A CsvRefused) → Gives {A = A} (Err f) wanted → f ≡ refused.Read → ⊥
never_read A refused.Read wanted h e = h
never_read A refused.NoMemory wanted h e = cc
never_read A (refused.Header n) wanted h e = cc
never_read A (refused.Fields n) wanted h e = cc
never_read A (refused.NotUtf8 n) wanted h e = cc
never_read A (refused.Value n c) wanted h e = cc

pub ruleset item_steps = (gives_bad, number_fits, counts_after, items_none, row_given, items_refused)

pub ruleset row_steps = (no_row_given, row_moved)

-- the rows so far and the items after them are as many as there were
pub falls_after : (rows : List (List Cell)) (now start : Option (List Item)) (recs : Option (List Fields)) (kinds : List Kind) (n : ℕ)
    → now ≡ option_map (items_from kinds n) recs → Counts recs n → option_map (rows_then rows) now ≡ start → length rows + left_count now ≤ left_count start
falls_after rows now start None kinds n e c whole = absurd c
falls_after rows now start (Some rs) kinds n e c whole =
    rw (← whole, e) (omega (arith, length-append (map {B = Item} Ok rows) (items_from kinds n rs), length-oks rows))

-- where none is left, the rows are as many as there were
pub falls_at_end : (rows : List (List Cell)) (now start : Option (List Item)) → now ≡ Some [] → option_map (rows_then rows) now ≡ start → length rows + left_count (Some []) ≤ left_count start
falls_at_end rows now start e whole =
    rw (← whole, e) (omega (arith, length-append {A = Item} (map Ok rows) [], length-oks rows))

pub ruleset batch_steps = (gives_full, gives_short, refused_after, falls_after, falls_at_end)
