-- Rows that stand in columns: how many, the one at a place, and when they are given rows.
use Rattle.std.proofs.Common.{◌≡◌, refl, ℕ, zero, suc, ◌+◌, ◌-◌, ◌<◌, ◌≤◌, ◌^◌, Bool, true, false, ◌&&◌, List, [], ◌∷◌, ◌++◌, length, get_or, take, drop, map, ap, sym, ◌∙◌, subst, arith, All, cond, add-one}
use Rattle.std.specs.Prelude.{slice_range}
use Rattle.std.proofs.lemmas.List.{get_or-map, map_more, length-map, length-drop, length-take-le, get_or-take, get_or-drop, length-append, append_assoc, append-nil, take_more}
use Rattle.std.proofs.Math.Seq.{get_or-append_seam}
use Rattle.dfx_value.specs.Rows.{cell}
use Rattle.dfx_value.specs.Kinds.{is_of, are_of}
use Rattle.dfx_value.specs.KindedRows.{all_are}
use Rattle.dfx_value.specs.declared.kind.Kind.{Kind}
use Rattle.dfx_value.specs.declared.value.Value.{Value}
use Rattle.dfx_value.specs.declared.value.Value.TheVariants as value
use Rattle.dfx_value.proofs.BatchLemmas.{both}
use Rattle.value_columns.specs.Columns.{KindedValues, Kinded, chosen, chosen_of}
use Rattle.column_batch.specs.Batches.{row_at, rows_from, kinds_of, cut, rows_at, kept}
use Rattle.column_batch.specs.Parts.{Reaches, Whole, all_chosen, places_from}
use Rattle.value_columns.proofs.ColumnLemmas.{all_of-at, kinded-chosen, length-chosen}

pub length-rows_from : (cs : List KindedValues) (from n : ℕ) → length (rows_from cs from n) ≡ n
length-rows_from cs from zero = refl
length-rows_from cs from (suc n) = ap suc (length-rows_from cs (suc from) n)

pub rows_from-at : (cs : List KindedValues) (from n i : ℕ) (d : List Value) → i < n → get_or (rows_from cs from n) i d ≡ row_at cs (from + i)
rows_from-at cs from zero i d h = absurd (omega arith)
rows_from-at cs from (suc n) zero d h = ap (row_at cs) (omega arith)
rows_from-at cs from (suc n) (suc i) d h = rows_from-at cs (suc from) n i d (omega arith) ∙ ap (row_at cs) (omega arith)

-- rows that stand there one by one
pub rows_from-is : (cs : List KindedValues) (from : ℕ) (rows : List (List Value))
    → ((i : ℕ) → i < length rows → row_at cs (from + i) ≡ get_or rows i []) → rows_from cs from (length rows) ≡ rows
rows_from-is cs from [] h = refl
rows_from-is cs from (r ∷ rs) h =
    let first : row_at cs from ≡ r = ap (row_at cs) (omega arith) ∙ h 0 (omega arith) in
    let rest : rows_from cs (suc from) (length rs) ≡ rs = rows_from-is cs (suc from) rs (λ i l. ap (row_at cs) (omega arith) ∙ h (suc i) (omega arith)) in
    cc

all-cons : (k : ℕ) (ps : List ℕ) (n : ℕ) → k < n → All (λ p. p < n) ps → All (λ p. p < n) (k ∷ ps)
all-cons k ps n h t zero d l = h
all-cons k ps n h t (suc i) d l = t i d (omega arith)

all-tail : {X : Type 0} (P : X → Type 0) (x : X) (xs : List X) → All P (x ∷ xs) → All P xs
all-tail P x xs h k d l = h (suc k) d (omega arith)

pub are_of-row_at : (cs : List KindedValues) (last i : ℕ) → All (Reaches last) cs → are_of (kinds_of cs) (row_at cs i) ≡ true
are_of-row_at [] last i h = refl
are_of-row_at (c ∷ cs) last i h = both _ _ (all_of-at c.kind c.values i (h 0 c (omega arith)).kinded.values) (are_of-row_at cs last i (all-tail (Reaches last) c cs h))

pub all_are-rows_from : (cs : List KindedValues) (last from n : ℕ) → All (Reaches last) cs → all_are (kinds_of cs) (rows_from cs from n) ≡ true
all_are-rows_from cs last from zero h = refl
all_are-rows_from cs last from (suc n) h = both _ _ (are_of-row_at cs last from h) (all_are-rows_from cs last (suc from) n h)

pub whole-all_are : (cs : List KindedValues) (from n : ℕ) → Whole cs from n → all_are (kinds_of cs) (rows_from cs from n) ≡ true
whole-all_are cs from n h = all_are-rows_from cs (from + n) from n h.long

pub row_at-more : (cs : List KindedValues) (i k : ℕ) (d : KindedValues) → k < length cs → row_at (take (k + 1) cs) i ≡ row_at (take k cs) i ++ get_or (get_or cs k d).values i value.Null ∷ []
row_at-more cs i k d h = map_more (λ (c : KindedValues). get_or c.values i value.Null) cs k d h

pub whole-part : (cs : List KindedValues) (from n a b : ℕ) → Whole cs from n → a ≤ b → b ≤ n → Whole cs (from + a) (b - a)
whole-part cs from n a b h l m = record {
  few = let few : from + n < 2 ^ 32 = h.few in omega arith;
  long = λ k d i. record { kinded = (h.long k d i).kinded; long = let long : from + n ≤ length (get_or cs k d).values = (h.long k d i).long in omega arith };
}

get_or-part : (rows : List (List Value)) (a b i : ℕ) → a + i < b → get_or (slice_range rows a b) i [] ≡ get_or rows (a + i) []
get_or-part rows a b i l = get_or-take (b - a) (drop a rows) i [] (omega arith) ∙ get_or-drop a rows i []

pub rows-part : (cs : List KindedValues) (from n a b : ℕ) → a ≤ b → b ≤ n → rows_from cs (from + a) (b - a) ≡ slice_range (rows_from cs from n) a b
rows-part cs from n a b l m =
    let len : length (slice_range (rows_from cs from n) a b) ≡ b - a =
    length-take-le (b - a) (drop a (rows_from cs from n)) (omega (arith, length-drop a (rows_from cs from n), length-rows_from cs from n)) in
    ap (rows_from cs (from + a)) (sym len) ∙ rows_from-is cs (from + a) (slice_range (rows_from cs from n) a b)
    (λ i h. ap (row_at cs) (omega arith) ∙ sym (get_or-part (rows_from cs from n) a b i (omega arith) ∙ rows_from-at cs from n (a + i) [] (omega arith)))

pub row_at-chosen : (cs : List KindedValues) (from : ℕ) (ps : List ℕ) (i : ℕ) → i < length ps → row_at (all_chosen cs from ps) i ≡ row_at cs (from + get_or ps i 0)
row_at-chosen [] from ps i h = refl
row_at-chosen (c ∷ cs) from ps i h =
    let here : get_or (chosen_of c.values from ps) i value.Null ≡ get_or c.values (from + get_or ps i 0) value.Null = get_or-map (λ p. get_or c.values (from + p) value.Null) ps i 0 value.Null h in
    let rest : row_at (all_chosen cs from ps) i ≡ row_at cs (from + get_or ps i 0) = row_at-chosen cs from ps i h in
    cc

pub rows-chosen : (cs : List KindedValues) (from n : ℕ) (ps : List ℕ) → All (λ p. p < n) ps → rows_from (all_chosen cs from ps) 0 (length ps) ≡ rows_at (rows_from cs from n) ps
rows-chosen cs from n ps h =
    let len : length (rows_at (rows_from cs from n) ps) ≡ length ps = length-map ps (λ p. get_or (rows_from cs from n) p []) in
    ap (rows_from (all_chosen cs from ps) 0) (sym len)
    ∙ rows_from-is (all_chosen cs from ps) 0 (rows_at (rows_from cs from n) ps) (λ i l.
    let within : i < length ps = omega arith in
    ap (row_at (all_chosen cs from ps)) (omega arith)
    ∙ row_at-chosen cs from ps i within
    ∙ sym (get_or-map (λ p. get_or (rows_from cs from n) p []) ps i 0 [] within ∙ rows_from-at cs from n (get_or ps i 0) [] (h i 0 within)))

pub kinds-chosen : (cs : List KindedValues) (from : ℕ) (ps : List ℕ) → kinds_of (all_chosen cs from ps) ≡ kinds_of cs
kinds-chosen [] from ps = refl
kinds-chosen (c ∷ cs) from ps = ap (λ t. c.kind ∷ t) (kinds-chosen cs from ps)

reaches-chosen : (cs : List KindedValues) (last from : ℕ) (ps : List ℕ) → All (Reaches last) cs → length ps < 2 ^ 32 → All (Reaches (0 + length ps)) (all_chosen cs from ps)
reaches-chosen [] last from ps h few k d l = absurd (omega arith)
reaches-chosen (c ∷ cs) last from ps h few zero d l = record {
  kinded = kinded-chosen c.kind c.values from ps (h 0 c (omega arith)).kinded few;
  long = omega (arith, length-chosen c.values from ps);
}
reaches-chosen (c ∷ cs) last from ps h few (suc k) d l = reaches-chosen cs last from ps (all-tail (Reaches last) c cs h) few k d (omega arith)

pub whole-chosen : (cs : List KindedValues) (from n : ℕ) (ps : List ℕ) → Whole cs from n → length ps < 2 ^ 32 → Whole (all_chosen cs from ps) 0 (length ps)
whole-chosen cs from n ps h few = record {
  few = omega arith;
  long = reaches-chosen cs (from + n) from ps h.long few;
}

pub cut-chosen : (cs : List KindedValues) (from n : ℕ) (ps : List ℕ) → All (λ p. p < n) ps → cut (all_chosen cs from ps) 0 (length ps) ≡ record { kinds = kinds_of cs; rows = rows_at (rows_from cs from n) ps }
cut-chosen cs from n ps h =
    let kinds : kinds_of (all_chosen cs from ps) ≡ kinds_of cs = kinds-chosen cs from ps in
    let rows : rows_from (all_chosen cs from ps) 0 (length ps) ≡ rows_at (rows_from cs from n) ps = rows-chosen cs from n ps h in
    cc

-- one more column
pub all_chosen-more : (cs : List KindedValues) (from k : ℕ) (ps : List ℕ) (d : KindedValues) → k < length cs → all_chosen (take (k + 1) cs) from ps ≡ all_chosen (take k cs) from ps ++ chosen (get_or cs k d) from ps ∷ []
all_chosen-more cs from k ps d h = map_more (λ c. chosen c from ps) cs k d h

-- what a batch's rows need of its columns
pub reaches-below : (cs : List KindedValues) (from n i k : ℕ) (d : KindedValues) → Whole cs from n → i < n → k < length cs → from + i < length (get_or cs k d).values
reaches-below cs from n i k d h l m = let long : from + n ≤ length (get_or cs k d).values = (h.long k d m).long in omega arith

pub row_at-cell : (cs : List KindedValues) (i k : ℕ) (d : KindedValues) → k < length cs → cell (row_at cs i) k ≡ get_or (get_or cs k d).values i value.Null
row_at-cell [] i k d h = absurd (omega arith)
row_at-cell (c ∷ cs) i zero d h = refl
row_at-cell (c ∷ cs) i (suc k) d h = row_at-cell cs i k d (omega arith)

-- the rows at the places of the true bits are those that are kept
rows_at-places : (before rows : List (List Value)) (bits : List Bool) → length bits ≡ length rows
    → rows_at (before ++ rows) (places_from (length before) bits) ≡ kept bits rows
rows_at-places before [] [] h = refl
rows_at-places before (r ∷ rows) [] h = absurd (omega arith)
rows_at-places before [] (b ∷ bits) h = absurd (omega arith)
rows_at-places before (r ∷ rows) (b ∷ bits) h =
    let next : rows_at ((before ++ r ∷ []) ++ rows) (places_from (length (before ++ r ∷ [])) bits) ≡ kept bits rows = rows_at-places (before ++ r ∷ []) rows bits (omega arith) in
    let same : (before ++ r ∷ []) ++ rows ≡ before ++ r ∷ rows = append_assoc before (r ∷ []) rows in
    let len : length (before ++ r ∷ []) ≡ suc (length before) = length-append before (r ∷ []) ∙ add-one (length before) in
    let rest : rows_at (before ++ r ∷ rows) (places_from (suc (length before)) bits) ≡ kept bits rows =
    ap (λ (x : List (List Value)). rows_at x (places_from (suc (length before)) bits)) (sym same) ∙ ap (λ (n : ℕ). rows_at ((before ++ r ∷ []) ++ rows) (places_from n bits)) (sym len) ∙ next in
    let here : get_or (before ++ r ∷ rows) (length before) [] ≡ r = get_or-append_seam before r rows [] in
    elim b as (λ v. rows_at (before ++ r ∷ rows) (cond v (length before ∷ places_from (suc (length before)) bits) (places_from (suc (length before)) bits)) ≡ cond v (r ∷ kept bits rows) (kept bits rows)) [
      | true ↦ ap (λ x. x ∷ rows_at (before ++ r ∷ rows) (places_from (suc (length before)) bits)) here ∙ ap (λ t. r ∷ t) rest
      | false ↦ rest
    ]

pub rows-kept : (rows : List (List Value)) (bits : List Bool) → length bits ≡ length rows → rows_at rows (places_from 0 bits) ≡ kept bits rows
rows-kept rows bits h = rows_at-places [] rows bits h

-- places are below the number of bits
pub places-below : (k : ℕ) (bits : List Bool) (n : ℕ) → k + length bits ≤ n → All (λ p. p < n) (places_from k bits)
places-below k [] n h = λ i d l. absurd (omega arith)
places-below k (true ∷ bits) n h = all-cons k (places_from (suc k) bits) n (omega arith) (places-below (suc k) bits n (omega arith))
places-below k (false ∷ bits) n h = places-below (suc k) bits n (omega arith)

pub length-places : (k : ℕ) (bits : List Bool) → length (places_from k bits) ≤ length bits
length-places k [] = omega arith
length-places k (true ∷ bits) = omega (arith, length-places (suc k) bits)
length-places k (false ∷ bits) = omega (arith, length-places (suc k) bits)

places-split : (k : ℕ) (xs ys : List Bool) → places_from k (xs ++ ys) ≡ places_from k xs ++ places_from (k + length xs) ys
places-split k [] ys = ap (λ (n : ℕ). places_from n ys) (omega arith)
places-split k (true ∷ xs) ys = ap (λ t. k ∷ t) (places-split (suc k) xs ys ∙ ap (λ (n : ℕ). places_from (suc k) xs ++ places_from n ys) (omega arith))
places-split k (false ∷ xs) ys = places-split (suc k) xs ys ∙ ap (λ (n : ℕ). places_from (suc k) xs ++ places_from n ys) (omega arith)

-- one more bit
pub places-true : (bits : List Bool) (i : ℕ) → i < length bits → get_or bits i false ≡ true → places_from 0 (take (i + 1) bits) ≡ places_from 0 (take i bits) ++ i ∷ []
places-true bits i h e =
    ap (places_from 0) (take_more bits i false h) ∙ places-split 0 (take i bits) (get_or bits i false ∷ [])
    ∙ ap (λ b. places_from 0 (take i bits) ++ places_from (0 + length (take i bits)) (b ∷ [])) e
    ∙ ap (λ n. places_from 0 (take i bits) ++ n ∷ []) (omega (arith, length-take-le i bits (omega arith)))

pub places-false : (bits : List Bool) (i : ℕ) → i < length bits → get_or bits i false ≡ false → places_from 0 (take (i + 1) bits) ≡ places_from 0 (take i bits)
places-false bits i h e =
    ap (places_from 0) (take_more bits i false h) ∙ places-split 0 (take i bits) (get_or bits i false ∷ [])
    ∙ ap (λ b. places_from 0 (take i bits) ++ places_from (0 + length (take i bits)) (b ∷ [])) e
    ∙ append-nil (places_from 0 (take i bits))

pub whole-all : (cs : List KindedValues) (n : ℕ) → n < 2 ^ 32 → All (λ c. n ≤ length c.values) cs → All (λ c. Kinded c.kind c.values) cs → Whole cs 0 n
whole-all cs n few long kinded = record {
  few = omega arith;
  long = λ k d l. record { kinded = kinded k d l; long = omega (arith, long k d l) };
}

pub ruleset filter_steps = (places-below, length-places, places-true, places-false, rows-kept)

pub ruleset batch_steps = (length-rows_from, rows_from-at, whole-all_are)

pub ruleset row_steps = (row_at-more)

pub ruleset part_steps = (whole-part, rows-part)

pub ruleset pick_steps = (whole-chosen, cut-chosen, all_chosen-more)
