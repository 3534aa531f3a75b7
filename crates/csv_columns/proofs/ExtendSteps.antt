-- Columns with values more: what stood in them stays.
use Rattle.std.proofs.Common.{◌≡◌, refl, ℕ, zero, suc, ◌+◌, ◌<◌, ◌≤◌, List, [], ◌∷◌, ◌++◌, length, get_or, set, take, Result, Ok, Err, All, ap, sym, ◌∙◌, arith}
use Rattle.std.proofs.lemmas.List.{length-take, get_or-take, take-append-le}
use Rattle.std.proofs.Math.Seq.{take-length}
use Rattle.dfx_value.specs.Checked.{◌>>=◌}
use Rattle.dfx_value.specs.declared.value.Value.{Value}
use Rattle.dfx_value.specs.declared.value.Value.TheVariants as value
use Rattle.value_columns.specs.Columns.{KindedValues, with_value}
use Rattle.column_batch.specs.Batches.{kinds_of, rows_from, row_at}
use Rattle.csv_source.specs.declared.refused.CsvRefused.{CsvRefused}
use Rattle.csv_source.specs.CsvItems.{field_value}
use Rattle.csv_columns.specs.Filled.{with_field, Extends, AllExtend, Even}

extends_same : (c : KindedValues) → Extends c c
extends_same c = record { kind = refl; front = take-length c.values }

pub all_same : (cs : List KindedValues) → AllExtend cs cs
all_same [] = tt
all_same (c ∷ cs) = (extends_same c, all_same cs)

extends_long : (c d : KindedValues) → Extends c d → length c.values ≤ length d.values
extends_long c d h = omega (arith, length-take (length c.values) d.values, ap length h.front)

extends_value : (c d : KindedValues) (v : Value) → Extends c d → Extends c (with_value d v)
extends_value c d v h = record {
  kind = h.kind;
  front = take-append-le (length c.values) d.values (v ∷ []) (extends_long c d h) ∙ h.front;
}

-- a value more at the end of one column
all_more : (old now : List KindedValues) (i : ℕ) (d : KindedValues) (v : Value) → AllExtend old now → AllExtend old (set now i (with_value (get_or now i d) v))
all_more [] [] i d v h = h
all_more [] (y ∷ now) i d v h = absurd h
all_more (x ∷ old) [] i d v h = absurd h
all_more (x ∷ old) (y ∷ now) zero d v h = (extends_value x y v h.0, h.1)
all_more (x ∷ old) (y ∷ now) (suc i) d v h = (h.0, all_more old now i d v h.1)

pub all_field : (n c : ℕ) (old now : List KindedValues) (i : ℕ) (d : KindedValues) (f : List ℕ) (new : KindedValues)
    → AllExtend old now → with_field n c (get_or now i d) f ≡ Ok new → AllExtend old (set now i new)
all_field n c old now i d f new h e = go (field_value n c (get_or now i d).kind f) e where
  go : (r : Result Value CsvRefused) → (r >>= λ v. Ok (with_value (get_or now i d) v)) ≡ Ok new → AllExtend old (set now i new)
  go (Ok v) m =
      let is : with_value (get_or now i d) v ≡ new = (cc) in
      rw (← is) (all_more old now i d v h)
  go (Err x) m = cc

pub all_kinds : (old now : List KindedValues) → AllExtend old now → kinds_of now ≡ kinds_of old
all_kinds [] [] h = refl
all_kinds [] (y ∷ now) h = absurd h
all_kinds (x ∷ old) [] h = absurd h
all_kinds (x ∷ old) (y ∷ now) h = let here = h.0.kind in let rest : kinds_of now ≡ kinds_of old = all_kinds old now h.1 in cc

-- ---- the rows of columns of one length

all-tail : {X : Type 0} (P : X → Type 0) (x : X) (xs : List X) → All P (x ∷ xs) → All P xs
all-tail P x xs h k d l = h (suc k) d (omega arith)

all-cons : {X : Type 0} (P : X → Type 0) (x : X) (xs : List X) → P x → All P xs → All P (x ∷ xs)
all-cons P x xs h t zero d l = h
all-cons P x xs h t (suc k) d l = t k d (omega arith)

pub all_long : (n : ℕ) (old now : List KindedValues) → Even n old → AllExtend old now → All (λ c. n ≤ length c.values) now
all_long n [] [] e h = λ k d l. absurd (omega arith)
all_long n [] (y ∷ now) e h = absurd h
all_long n (x ∷ old) [] e h = absurd h
all_long n (x ∷ old) (y ∷ now) e h =
    let here : n ≤ length y.values = omega (arith, extends_long x y h.0, e 0 x (omega arith)) in
    all-cons (λ c. n ≤ length c.values) y now here (all_long n old now (all-tail (λ c. length c.values ≡ n) x old e) h.1)

same_value : (c d : KindedValues) (i : ℕ) → Extends c d → i < length c.values → get_or d.values i value.Null ≡ get_or c.values i value.Null
same_value c d i h l = sym (get_or-take (length c.values) d.values i value.Null l) ∙ ap (λ (vs : List Value). get_or vs i value.Null) h.front

row_same : (n i : ℕ) (old now : List KindedValues) → Even n old → AllExtend old now → i < n → row_at now i ≡ row_at old i
row_same n i [] [] e h l = refl
row_same n i [] (y ∷ now) e h l = absurd h
row_same n i (x ∷ old) [] e h l = absurd h
row_same n i (x ∷ old) (y ∷ now) e h l =
    let here : get_or y.values i value.Null ≡ get_or x.values i value.Null = same_value x y i h.0 (omega (arith, e 0 x (omega arith))) in
    let rest : row_at now i ≡ row_at old i = row_same n i old now (all-tail (λ c. length c.values ≡ n) x old e) h.1 l in
    cc

rows_alike : (n from count : ℕ) (old now : List KindedValues) → Even n old → AllExtend old now → from + count ≤ n → rows_from now from count ≡ rows_from old from count
rows_alike n from zero old now e h l = refl
rows_alike n from (suc count) old now e h l =
    let here : row_at now from ≡ row_at old from = row_same n from old now e h (omega arith) in
    let rest : rows_from now (suc from) count ≡ rows_from old (suc from) count = rows_alike n (suc from) count old now e h (omega arith) in
    cc

pub rows_same : (n : ℕ) (old now : List KindedValues) → Even n old → AllExtend old now → rows_from now 0 n ≡ rows_from old 0 n
rows_same n old now e h = rows_alike n 0 n old now e h (omega arith)

pub ruleset extend_steps = (all_same, all_field)
