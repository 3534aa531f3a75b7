-- Columns to which parts of others are put.
use Rattle.std.proofs.Common.{◌≡◌, refl, ℕ, zero, suc, ◌+◌, ◌-◌, ◌<◌, ◌≤◌, ◌^◌, Bool, true, false, List, [], ◌∷◌, ◌++◌, length, get_or, set, take, drop, map, ap, sym, ◌∙◌, subst, arith, All}
use Rattle.std.specs.Prelude.{slice_range}
use Rattle.std.proofs.lemmas.List.{length-append, length-map, map_more, get_or_append_left, get_or-append-add, get_or-take, get_or-drop, length-take-le, length-drop}
use Rattle.std.proofs.lemmas.List.Elements.{All-tail, All-head}
use Rattle.dfx_value.specs.Kinds.{is_kind}
use Rattle.dfx_value.specs.declared.kind.Kind.{Kind}
use Rattle.dfx_value.specs.declared.value.Value.{Value}
use Rattle.dfx_value.specs.declared.value.Value.TheVariants as value
use Rattle.value_columns.specs.Columns.{KindedValues, with_part}
use Rattle.column_batch.specs.Batches.{row_at, rows_from, kinds_of}
use Rattle.column_batch.specs.Parts.{all_with_parts, empties, Fills}
use Rattle.column_batch.proofs.BatchLemmas.{rows_from-is, rows_from-at, length-rows_from}

pub length-all_with_parts : (cs ds : List KindedValues) (a b : ℕ) → length (all_with_parts cs ds a b) ≡ length cs
length-all_with_parts [] ds a b = refl
length-all_with_parts (c ∷ cs) [] a b = refl
length-all_with_parts (c ∷ cs) (d ∷ ds) a b = ap suc (length-all_with_parts cs ds a b)

pub kinds-all_with_parts : (cs ds : List KindedValues) (a b : ℕ) → kinds_of (all_with_parts cs ds a b) ≡ kinds_of cs
kinds-all_with_parts [] ds a b = refl
kinds-all_with_parts (c ∷ cs) [] a b = refl
kinds-all_with_parts (c ∷ cs) (d ∷ ds) a b = ap (λ t. c.kind ∷ t) (kinds-all_with_parts cs ds a b)

-- the column that comes next has nothing new yet
pub all_with_parts-next : (cs ds : List KindedValues) (a b i : ℕ) (d : KindedValues) → get_or (all_with_parts cs (take i ds) a b) i d ≡ get_or cs i d
all_with_parts-next [] ds a b i d = refl
all_with_parts-next (c ∷ cs) ds a b zero d = refl
all_with_parts-next (c ∷ cs) [] a b (suc i) d = refl
all_with_parts-next (c ∷ cs) (x ∷ ds) a b (suc i) d = all_with_parts-next cs ds a b i d

pub all_with_parts-none : (cs : List KindedValues) (a b : ℕ) → all_with_parts cs [] a b ≡ cs
all_with_parts-none [] a b = refl
all_with_parts-none (c ∷ cs) a b = refl

step : (i : ℕ) → suc (i + 1) ≡ suc i + 1
step i = omega arith

-- one more column has its part
pub all_with_parts-more : (cs ds : List KindedValues) (a b i : ℕ) (d e : KindedValues) → i < length cs → i < length ds
    → set (all_with_parts cs (take i ds) a b) i (with_part (get_or cs i d) (get_or ds i e) a b) ≡ all_with_parts cs (take (i + 1) ds) a b
all_with_parts-more cs [] a b i d e h l = absurd (omega arith)
all_with_parts-more [] (x ∷ ds) a b i d e h l = absurd (omega arith)
all_with_parts-more (c ∷ cs) (x ∷ ds) a b zero d e h l = ap (λ t. with_part c x a b ∷ t) (sym (all_with_parts-none cs a b))
all_with_parts-more (c ∷ cs) (x ∷ ds) a b (suc i) d e h l =
    ap (λ t. with_part c x a b ∷ t) (all_with_parts-more cs ds a b i d e (omega arith) (omega arith))
    ∙ ap (λ (n : ℕ). all_with_parts (c ∷ cs) (take n (x ∷ ds)) a b) (step i)

-- columns of the same kinds, place by place
pub kinds-same : (cs ds : List KindedValues) (i : ℕ) (d e : KindedValues) → kinds_of ds ≡ kinds_of cs → i < length cs → (get_or ds i e).kind ≡ (get_or cs i d).kind
kinds-same [] ds i d e h l = absurd (omega arith)
kinds-same (c ∷ cs) [] i d e h l = cc
kinds-same (c ∷ cs) (x ∷ ds) zero d e h l = cc
kinds-same (c ∷ cs) (x ∷ ds) (suc i) d e h l = let rest : kinds_of ds ≡ kinds_of cs = cc in kinds-same cs ds i d e rest (omega arith)

pub length-same : (cs ds : List KindedValues) → kinds_of ds ≡ kinds_of cs → length ds ≡ length cs
length-same cs ds h = sym (length-map ds (λ (c : KindedValues). c.kind)) ∙ ap length h ∙ length-map cs (λ (c : KindedValues). c.kind)

-- the rows before are what they were
row_at-before : (cs ds : List KindedValues) (a b n i : ℕ) → All (λ c. n ≤ length c.values) cs → i < n → row_at (all_with_parts cs ds a b) i ≡ row_at cs i
row_at-before [] ds a b n i h l = refl
row_at-before (c ∷ cs) [] a b n i h l = refl
row_at-before (c ∷ cs) (d ∷ ds) a b n i h l =
    let here : get_or (with_part c d a b).values i value.Null ≡ get_or c.values i value.Null =
    get_or_append_left c.values (slice_range d.values a b) value.Null i (omega (arith, All-head (λ x. n ≤ length x.values) c cs h)) in
    let rest : row_at (all_with_parts cs ds a b) i ≡ row_at cs i = row_at-before cs ds a b n i (All-tail (λ x. n ≤ length x.values) c cs h) l in
    cc

pub rows-before : (cs ds : List KindedValues) (a b n : ℕ) → All (λ c. n ≤ length c.values) cs → rows_from (all_with_parts cs ds a b) 0 n ≡ rows_from cs 0 n
rows-before cs ds a b n h =
    ap (rows_from (all_with_parts cs ds a b) 0) (sym (length-rows_from cs 0 n))
    ∙ rows_from-is (all_with_parts cs ds a b) 0 (rows_from cs 0 n) (λ i l.
    let below : i < n = omega (arith, length-rows_from cs 0 n) in
    row_at-before cs ds a b n (0 + i) h (omega arith) ∙ sym (rows_from-at cs 0 n i [] below))

-- the rows that were put stand behind them
part-at : (xs : List Value) (a b i : ℕ) → a + i < b → get_or (slice_range xs a b) i value.Null ≡ get_or xs (a + i) value.Null
part-at xs a b i l = get_or-take (b - a) (drop a xs) i value.Null (omega arith) ∙ get_or-drop a xs i value.Null

row_at-behind : (cs ds : List KindedValues) (a b n i : ℕ) → All (λ c. length c.values ≡ n) cs → length ds ≡ length cs → a + i < b
    → row_at (all_with_parts cs ds a b) (n + i) ≡ row_at ds (a + i)
row_at-behind [] [] a b n i h l m = refl
row_at-behind [] (d ∷ ds) a b n i h l m = absurd (omega arith)
row_at-behind (c ∷ cs) [] a b n i h l m = absurd (omega arith)
row_at-behind (c ∷ cs) (d ∷ ds) a b n i h l m =
    let len : length c.values ≡ n = All-head (λ x. length x.values ≡ n) c cs h in
    let here : get_or (with_part c d a b).values (n + i) value.Null ≡ get_or d.values (a + i) value.Null =
    ap (λ (k : ℕ). get_or (c.values ++ slice_range d.values a b) (k + i) value.Null) (sym len)
    ∙ get_or-append-add c.values (slice_range d.values a b) i value.Null ∙ part-at d.values a b i m in
    let rest : row_at (all_with_parts cs ds a b) (n + i) ≡ row_at ds (a + i) = row_at-behind cs ds a b n i (All-tail (λ x. length x.values ≡ n) c cs h) (omega arith) m in
    cc

rows_from-split : (cs : List KindedValues) (from n m : ℕ) → rows_from cs from (n + m) ≡ rows_from cs from n ++ rows_from cs (from + n) m
rows_from-split cs from zero m = ap (λ (k : ℕ). rows_from cs from k) {x = zero + m} {y = m} (omega arith) ∙ ap (λ (k : ℕ). rows_from cs k m) {x = from} {y = from + zero} (omega arith)
rows_from-split cs from (suc n) m =
    ap (λ (k : ℕ). rows_from cs from k) {x = suc n + m} {y = suc (n + m)} (omega arith)
    ∙ ap (λ t. row_at cs from ∷ t) (rows_from-split cs (suc from) n m ∙ ap (λ (k : ℕ). rows_from cs (suc from) n ++ rows_from cs k m) {x = suc from + n} {y = from + suc n} (omega arith))

pub rows-extended : (cs ds : List KindedValues) (from m n : ℕ) → All (λ c. length c.values ≡ n) cs → kinds_of ds ≡ kinds_of cs
    → rows_from (all_with_parts cs ds from (from + m)) 0 (n + m) ≡ rows_from cs 0 n ++ rows_from ds from m
rows-extended cs ds from m n h kinds =
    let behind : rows_from (all_with_parts cs ds from (from + m)) n m ≡ rows_from ds from m =
    ap (rows_from (all_with_parts cs ds from (from + m)) n) (sym (length-rows_from ds from m))
    ∙ rows_from-is (all_with_parts cs ds from (from + m)) n (rows_from ds from m) (λ i l.
    let below : i < m = omega (arith, length-rows_from ds from m) in
    row_at-behind cs ds from (from + m) n i h (length-same cs ds kinds) (omega arith) ∙ sym (rows_from-at ds from m i [] below)) in
    rows_from-split (all_with_parts cs ds from (from + m)) 0 n m
    ∙ ap (λ t. t ++ rows_from (all_with_parts cs ds from (from + m)) (0 + n) m) (rows-before cs ds from (from + m) n (λ k d l. omega (arith, h k d l)))
    ∙ ap (λ t. rows_from cs 0 n ++ t) (ap (λ (k : ℕ). rows_from (all_with_parts cs ds from (from + m)) k m) {x = 0 + n} {y = n} (omega arith) ∙ behind)

even-extended : (cs ds : List KindedValues) (a b n : ℕ) → All (λ c. length c.values ≡ n) cs → length ds ≡ length cs → All (λ c. b ≤ length c.values) ds
    → All (λ c. length c.values ≡ n + (b - a)) (all_with_parts cs ds a b)
even-extended [] ds a b n h l w k d m = absurd (omega (arith, length-all_with_parts [] ds a b))
even-extended (c ∷ cs) [] a b n h l w k d m = absurd (omega arith)
even-extended (c ∷ cs) (x ∷ ds) a b n h l w zero d m =
    omega (
      arith,
      length-append c.values (slice_range x.values a b),
      length-take-le (b - a) (drop a x.values) (omega (arith, length-drop a x.values, All-head (λ y. b ≤ length y.values) x ds w)),
      All-head (λ y. length y.values ≡ n) c cs h,
    )
even-extended (c ∷ cs) (x ∷ ds) a b n h l w (suc k) d m =
    even-extended cs ds a b n (All-tail (λ y. length y.values ≡ n) c cs h) (omega arith) (All-tail (λ y. b ≤ length y.values) x ds w) k d (omega arith)

pub long-extended : (cs ds : List KindedValues) (a b n : ℕ) → All (λ c. n ≤ length c.values) cs → All (λ c. n ≤ length c.values) (all_with_parts cs ds a b)
long-extended [] ds a b n h k d m = absurd (omega (arith, length-all_with_parts [] ds a b))
long-extended (c ∷ cs) [] a b n h k d m = h k d m
long-extended (c ∷ cs) (x ∷ ds) a b n h zero d m = omega (arith, length-append c.values (slice_range x.values a b), All-head (λ y. n ≤ length y.values) c cs h)
long-extended (c ∷ cs) (x ∷ ds) a b n h (suc k) d m = long-extended cs ds a b n (All-tail (λ y. n ≤ length y.values) c cs h) k d (omega arith)

pub fills-extended : (cs ds : List KindedValues) (from m n : ℕ) (full : Bool) → Fills cs n full → full ≡ false → kinds_of ds ≡ kinds_of cs → All (λ c. from + m ≤ length c.values) ds
    → Fills (all_with_parts cs ds from (from + m)) (n + m) full
fills-extended cs ds from m n full h e kinds w =
    let even : All (λ c. length c.values ≡ n + (from + m - from)) (all_with_parts cs ds from (from + m)) = even-extended cs ds from (from + m) n (h.even e) (length-same cs ds kinds) w in
    record { long = λ k d l. omega (arith, even k d l); even = λ _ k d l. omega (arith, even k d l) }

pub fills-cut : (cs ds : List KindedValues) (a b n : ℕ) → All (λ c. n ≤ length c.values) cs → Fills (all_with_parts cs ds a b) n true
fills-cut cs ds a b n h = record { long = long-extended cs ds a b n h; even = λ e. cc }

pub alike_more : (cs : List KindedValues) (i : ℕ) (d : KindedValues) → i < length cs
    → empties (kinds_of (take (i + 1) cs)) ≡ empties (kinds_of (take i cs)) ++ record { kind = (get_or cs i d).kind; values = [] } ∷ []
alike_more [] i d h = absurd (omega arith)
alike_more (c ∷ cs) zero d h = refl
alike_more (c ∷ cs) (suc i) d h =
    ap (λ (n : ℕ). empties (kinds_of (take n (c ∷ cs)))) {x = suc i + 1} {y = suc (i + 1)} (omega arith)
    ∙ ap (λ t. record { kind = c.kind; values = [] } ∷ t) (alike_more cs i d (omega arith))

pub ruleset with_steps = (length-all_with_parts, kinds-all_with_parts, all_with_parts-next, all_with_parts-more, kinds-same, length-same)

pub ruleset extend_steps = (kinds-all_with_parts, rows-before, rows-extended, long-extended, length-rows_from)
