-- Columns that the fields of records fill.
use Rattle.std.proofs.Common.{◌≡◌, ◌≢◌, refl, ℕ, zero, suc, ◌+◌, ◌<◌, ◌≤◌, true, false, ◌==◌, eq-eqb, ne_eqb, List, [], ◌∷◌, ◌++◌, length, get_or, set, take, drop, drop-cons, add-one, Result, Ok, Err, All, ap, sym, ◌∙◌, arith, append_assoc}
use Rattle.std.proofs.lemmas.List.{take_all, drop_all, append-nil, length-map, take_more_set, get_or-drop}
use Rattle.std.proofs.Math.Seq.{drop-set-lt}
use Rattle.dfx_value.proofs.KindSteps.{kind_steps}
use Rattle.dfx_value.proofs.ParseLemmas.{utf8_tests}
use Rattle.dfx_value.specs.Checked.{◌>>=◌}
use Rattle.dfx_value.specs.declared.value.Value.{Value}
use Rattle.value_columns.specs.Columns.{KindedValues, with_value}
use Rattle.column_batch.specs.Batches.{kinds_of}
use Rattle.column_batch.specs.Parts.{all_with}
use Rattle.column_batch.proofs.BuilderLemmas.{kinds-empties}
use Rattle.csv_source.specs.declared.refused.CsvRefused.{CsvRefused}
use Rattle.csv_source.specs.declared.refused.CsvRefused.TheVariants as refused
use Rattle.csv_source.specs.CsvItems.{Item, field_value, cells_from}
use Rattle.csv_columns.specs.Filled.{with_field, with_fields, with_record, behind, Even}
use Rattle.csv_columns.proofs.ExtendSteps.{extend_steps}

-- ---- one field after another

joined : (v : Result Value CsvRefused) (vs : Item) (x : KindedValues) (cs : List KindedValues)
    → ((v >>= λ a. vs >>= λ b. Ok (a ∷ b)) >>= λ row. Ok (all_with (x ∷ cs) row)) ≡ ((v >>= λ a. Ok (with_value x a)) >>= λ y. (vs >>= λ row. Ok (all_with cs row)) >>= λ ys. Ok (y ∷ ys))
joined (Ok v) (Ok vs) x cs = refl
joined (Ok v) (Err e) x cs = refl
joined (Err e) vs x cs = refl

pub fields_cons : (n c : ℕ) (x : KindedValues) (cs : List KindedValues) (f : List ℕ) (fs : List (List ℕ))
    → with_fields n c (x ∷ cs) (f ∷ fs) ≡ (with_field n c x f >>= λ y. with_fields n (c + 1) cs fs >>= λ ys. Ok (y ∷ ys))
fields_cons n c x cs f fs = joined (field_value n c x.kind f) (cells_from n (c + 1) (kinds_of cs) fs) x cs

behind_more : (front : List KindedValues) (x : KindedValues) (rest : Result (List KindedValues) CsvRefused)
    → behind (front ++ x ∷ []) rest ≡ behind front (rest >>= λ ys. Ok (x ∷ ys))
behind_more front x (Ok ys) = ap Ok (append_assoc front (x ∷ []) ys)
behind_more front x (Err e) = refl

-- the column that a field was put to goes from those that are left to those in front
pub fields_more : (n c i : ℕ) (old now : List KindedValues) (fs : List (List ℕ)) (new d : KindedValues) (e : List ℕ) → i < length old → i < length fs → length now ≡ length old
    → with_field n c (get_or old i d) (get_or fs i e) ≡ Ok new
    → behind (take (i + 1) (set now i new)) (with_fields n (c + 1) (drop (i + 1) old) (drop (i + 1) fs)) ≡ behind (take i now) (with_fields n c (drop i old) (drop i fs))
fields_more n c i old now fs new d e l m same h =
    let put : with_fields n c (drop i old) (drop i fs) ≡ (with_fields n (c + 1) (drop (i + 1) old) (drop (i + 1) fs) >>= λ ys. Ok (new ∷ ys)) =
    rw (drop-cons old i d l, drop-cons fs i e m, add-one i)
    (fields_cons n c (get_or old i d) (drop (suc i) old) (get_or fs i e) (drop (suc i) fs)
    ∙ ap (λ (r : Result KindedValues CsvRefused). r >>= λ y. with_fields n (c + 1) (drop (suc i) old) (drop (suc i) fs) >>= λ ys. Ok (y ∷ ys)) h) in
    let front : take (i + 1) (set now i new) ≡ take i now ++ new ∷ [] = take_more_set now i new (omega arith) in
    rw (front, put) (behind_more (take i now) new (with_fields n (c + 1) (drop (i + 1) old) (drop (i + 1) fs)))

drop_next : (i : ℕ) (xs : List KindedValues) → drop (suc i) xs ≡ drop 1 (drop i xs)
drop_next zero xs = refl
drop_next (suc i) [] = refl
drop_next (suc i) (x ∷ xs) = drop_next i xs

-- the columns that are left are as they were
pub rest_more : (i : ℕ) (old now : List KindedValues) (new : KindedValues) → drop i now ≡ drop i old → drop (i + 1) (set now i new) ≡ drop (i + 1) old
rest_more i old now new h =
    drop-set-lt (i + 1) now i new (omega arith) ∙ rw add-one (drop_next i now ∙ ap (drop 1) h ∙ sym (drop_next i old))

pub column_at : (i : ℕ) (old now : List KindedValues) (d : KindedValues) → drop i now ≡ drop i old → get_or now i d ≡ get_or old i d
column_at i old now d h =
    let same : i ≡ i + 0 = omega arith in
    ap (λ (k : ℕ). get_or now k d) same ∙ sym (get_or-drop i now 0 d) ∙ ap (λ (xs : List KindedValues). get_or xs 0 d) h ∙ get_or-drop i old 0 d ∙ ap (λ (k : ℕ). get_or old k d) (sym same)

pub field_refused : (n c i : ℕ) (old : List KindedValues) (fs : List (List ℕ)) (front : List KindedValues) (whole : Result (List KindedValues) CsvRefused) (d : KindedValues) (e : List ℕ) (f : CsvRefused)
    → i < length old → i < length fs → with_field n c (get_or old i d) (get_or fs i e) ≡ Err f
    → behind front (with_fields n c (drop i old) (drop i fs)) ≡ whole → whole ≡ Err f
field_refused n c i old fs front whole d e f l m h w =
    let put : with_fields n c (drop i old) (drop i fs) ≡ Err f =
    rw (drop-cons old i d l, drop-cons fs i e m)
    (fields_cons n c (get_or old i d) (drop (suc i) old) (get_or fs i e) (drop (suc i) fs)
    ∙ ap (λ (r : Result KindedValues CsvRefused). r >>= λ y. with_fields n (c + 1) (drop (suc i) old) (drop (suc i) fs) >>= λ ys. Ok (y ∷ ys)) h) in
    sym w ∙ ap (behind front) put

pub fields_end : (n c i : ℕ) (old now : List KindedValues) (fs : List (List ℕ)) (whole : Result (List KindedValues) CsvRefused)
    → length old ≤ i → length now ≡ length old → behind (take i now) (with_fields n c (drop i old) (drop i fs)) ≡ whole → whole ≡ Ok now
fields_end n c i old now fs whole l same w =
    let none : drop i old ≡ [] = drop_all i old l in
    let all : take i now ≡ now = take_all i now (omega arith) in
    sym w ∙ ap (λ (cs : List KindedValues). behind (take i now) (with_fields n c cs (drop i fs))) none ∙ ap (λ (cs : List KindedValues). Ok (cs ++ [])) all ∙ ap Ok (append-nil now)

-- ---- the row of a record

pub record_same : (n : ℕ) (cs : List KindedValues) (fs : List (List ℕ)) → length fs ≡ length cs → with_record n cs fs ≡ with_fields n 1 cs fs
record_same n cs fs h =
    let fits : (length fs == length (kinds_of cs)) ≡ true = eq-eqb (length fs) (length (kinds_of cs)) (h ∙ sym (length-map cs (λ (c : KindedValues). c.kind))) in
    rw fits refl

pub record_other : (n : ℕ) (cs : List KindedValues) (fs : List (List ℕ)) → length fs ≢ length cs → with_record n cs fs ≡ Err (refused.Fields n)
record_other n cs fs h =
    let differs : (length fs == length (kinds_of cs)) ≡ false = ne_eqb (length fs) (length (kinds_of cs)) (λ e. h (e ∙ length-map cs (λ (c : KindedValues). c.kind))) in
    rw differs refl

-- ---- columns of one length

pub even_long : (n : ℕ) (cs : List KindedValues) → Even n cs → All (λ c. n ≤ length c.values) cs
even_long n cs h = λ k d l. omega (arith, h k d l)

pub ruleset text_steps = (kind_steps, utf8_tests)

pub ruleset fill_steps = (rest_more, fields_more, field_refused, fields_end, record_same, record_other, extend_steps)

pub ruleset even_steps = (even_long)

pub ruleset empty_steps = (kinds-empties)
