-- Columns to which rows are put.
use Rattle.std.proofs.Common.{◌≡◌, refl, ℕ, zero, suc, ◌+◌, ◌-◌, ◌<◌, ◌≤◌, ◌^◌, Bool, true, false, ◌&&◌, List, [], ◌∷◌, ◌++◌, length, get_or, set, take, drop, map, ap, sym, ◌∙◌, subst, arith, All}
use Rattle.std.proofs.lemmas.List.{length-append, map_more, get_or_append_left, length-map}
use Rattle.std.proofs.Math.Seq.{get_or-append_seam}
use Rattle.dfx_value.specs.Kinds.{is_of, are_of, is_kind, are_kinds}
use Rattle.dfx_value.specs.declared.kind.Kind.{Kind}
use Rattle.dfx_value.specs.declared.value.Value.{Value}
use Rattle.dfx_value.specs.declared.value.Value.TheVariants as value
use Rattle.dfx_value.proofs.BatchLemmas.{both, left_of, right_of, length-are_of}
use Rattle.value_columns.specs.Columns.{KindedValues, with_value}
use Rattle.column_batch.specs.Batches.{row_at, rows_from, kinds_of, cut}
use Rattle.column_batch.specs.Parts.{all_with, empties, Fills}
use Rattle.column_batch.proofs.BatchLemmas.{rows_from-is, rows_from-at, length-rows_from}

pub length-all_with : (cs : List KindedValues) (vs : List Value) → length (all_with cs vs) ≡ length cs
length-all_with [] vs = refl
length-all_with (c ∷ cs) [] = refl
length-all_with (c ∷ cs) (v ∷ vs) = ap suc (length-all_with cs vs)

pub kinds-all_with : (cs : List KindedValues) (vs : List Value) → kinds_of (all_with cs vs) ≡ kinds_of cs
kinds-all_with [] vs = refl
kinds-all_with (c ∷ cs) [] = refl
kinds-all_with (c ∷ cs) (v ∷ vs) = ap (λ t. c.kind ∷ t) (kinds-all_with cs vs)

-- the column that comes next has nothing new yet
pub all_with-next : (cs : List KindedValues) (vs : List Value) (i : ℕ) (d : KindedValues) → get_or (all_with cs (take i vs)) i d ≡ get_or cs i d
all_with-next [] vs i d = refl
all_with-next (c ∷ cs) vs zero d = refl
all_with-next (c ∷ cs) [] (suc i) d = refl
all_with-next (c ∷ cs) (v ∷ vs) (suc i) d = all_with-next cs vs i d

pub all_with-none : (cs : List KindedValues) → all_with cs [] ≡ cs
all_with-none [] = refl
all_with-none (c ∷ cs) = refl

next : (n : ℕ) → n + 1 ≡ suc n
next n = omega arith

step : (i : ℕ) → suc (i + 1) ≡ suc i + 1
step i = omega arith

-- one more column has its value
pub all_with-more : (cs : List KindedValues) (vs : List Value) (i : ℕ) (d : KindedValues) (e : Value) → i < length cs → i < length vs
    → set (all_with cs (take i vs)) i (with_value (get_or cs i d) (get_or vs i e)) ≡ all_with cs (take (i + 1) vs)
all_with-more cs [] i d e h l = absurd (omega arith)
all_with-more [] (v ∷ vs) i d e h l = absurd (omega arith)
all_with-more (c ∷ cs) (v ∷ vs) zero d e h l = ap (λ t. with_value c v ∷ t) (sym (all_with-none cs))
all_with-more (c ∷ cs) (v ∷ vs) (suc i) d e h l =
    ap (λ t. with_value c v ∷ t) (all_with-more cs vs i d e (omega arith) (omega arith))
    ∙ ap (λ (n : ℕ). all_with (c ∷ cs) (take n (v ∷ vs))) (step i)

pub fits-at : (cs : List KindedValues) (vs : List Value) (i : ℕ) (d : KindedValues) (e : Value) → are_of (kinds_of cs) vs ≡ true → i < length cs → is_of (get_or cs i d).kind (get_or vs i e) ≡ true
fits-at [] vs i d e f h = absurd (omega arith)
fits-at (c ∷ cs) [] i d e f h = cc
fits-at (c ∷ cs) (v ∷ vs) zero d e f h = left_of _ _ f
fits-at (c ∷ cs) (v ∷ vs) (suc i) d e f h = fits-at cs vs i d e (right_of _ _ f) (omega arith)

-- the rows before are what they were
same_value : (c : KindedValues) (v : Value) (i : ℕ) → i < length c.values → get_or (with_value c v).values i value.Null ≡ get_or c.values i value.Null
same_value c v i h = get_or_append_left c.values (v ∷ []) value.Null i h

all-tail : {X : Type 0} (P : X → Type 0) (x : X) (xs : List X) → All P (x ∷ xs) → All P xs
all-tail P x xs h k d l = h (suc k) d (omega arith)

pub row_at-before : (cs : List KindedValues) (vs : List Value) (n i : ℕ) → All (λ c. n ≤ length c.values) cs → i < n → row_at (all_with cs vs) i ≡ row_at cs i
row_at-before [] vs n i h l = refl
row_at-before (c ∷ cs) [] n i h l = refl
row_at-before (c ∷ cs) (v ∷ vs) n i h l =
    let here : get_or (with_value c v).values i value.Null ≡ get_or c.values i value.Null = same_value c v i (omega (arith, h 0 c (omega arith))) in
    let rest : row_at (all_with cs vs) i ≡ row_at cs i = row_at-before cs vs n i (all-tail (λ x. n ≤ length x.values) c cs h) l in
    cc

pub rows-before : (cs : List KindedValues) (vs : List Value) (n : ℕ) → All (λ c. n ≤ length c.values) cs → rows_from (all_with cs vs) 0 n ≡ rows_from cs 0 n
rows-before cs vs n h =
    ap (rows_from (all_with cs vs) 0) (sym (length-rows_from cs 0 n))
    ∙ rows_from-is (all_with cs vs) 0 (rows_from cs 0 n) (λ i l.
    let below : i < n = omega (arith, length-rows_from cs 0 n) in
    row_at-before cs vs n (0 + i) h (omega arith) ∙ sym (rows_from-at cs 0 n i [] below))

-- the row that was put stands last
pub row_at-last : (cs : List KindedValues) (vs : List Value) (n : ℕ) → All (λ c. length c.values ≡ n) cs → length vs ≡ length cs → row_at (all_with cs vs) n ≡ vs
row_at-last [] [] n h l = refl
row_at-last [] (v ∷ vs) n h l = absurd (omega arith)
row_at-last (c ∷ cs) [] n h l = absurd (omega arith)
row_at-last (c ∷ cs) (v ∷ vs) n h l =
    let len : length c.values ≡ n = h 0 c (omega arith) in
    let here : get_or (with_value c v).values n value.Null ≡ v = ap (λ (m : ℕ). get_or (c.values ++ v ∷ []) m value.Null) (sym len) ∙ get_or-append_seam c.values v [] value.Null in
    let rest : row_at (all_with cs vs) n ≡ vs = row_at-last cs vs n (all-tail (λ x. length x.values ≡ n) c cs h) (omega arith) in
    cc

rows_from-more : (cs : List KindedValues) (from n : ℕ) → rows_from cs from (suc n) ≡ rows_from cs from n ++ row_at cs (from + n) ∷ []
rows_from-more cs from zero = ap (λ (k : ℕ). row_at cs k ∷ []) (omega arith)
rows_from-more cs from (suc n) = ap (λ t. row_at cs from ∷ t) (rows_from-more cs (suc from) n ∙ ap (λ (k : ℕ). rows_from cs (suc from) n ++ row_at cs k ∷ []) (omega arith))

pub rows-pushed : (cs : List KindedValues) (vs : List Value) (n : ℕ) → All (λ c. length c.values ≡ n) cs → are_of (kinds_of cs) vs ≡ true
    → rows_from (all_with cs vs) 0 (n + 1) ≡ rows_from cs 0 n ++ vs ∷ []
rows-pushed cs vs n h f =
    let len : length vs ≡ length cs = length-are_of (kinds_of cs) vs f ∙ length-map cs (λ (c : KindedValues). c.kind) in
    ap (rows_from (all_with cs vs) 0) (next n)
    ∙ rows_from-more (all_with cs vs) 0 n
    ∙ ap (λ t. t ++ row_at (all_with cs vs) (0 + n) ∷ []) (rows-before cs vs n (λ k d l. omega (arith, h k d l)))
    ∙ ap (λ r. rows_from cs 0 n ++ r ∷ []) (ap (row_at (all_with cs vs)) (omega arith) ∙ row_at-last cs vs n h len)

pub fills-pushed : (cs : List KindedValues) (vs : List Value) (n : ℕ) → All (λ c. length c.values ≡ n) cs → length vs ≡ length cs → All (λ c. length c.values ≡ n + 1) (all_with cs vs)
fills-pushed [] vs n h l k d m = absurd (omega (arith, length-all_with [] vs))
fills-pushed (c ∷ cs) [] n h l k d m = absurd (omega arith)
fills-pushed (c ∷ cs) (v ∷ vs) n h l zero d m = omega (arith, length-append c.values (v ∷ []), h 0 c (omega arith))
fills-pushed (c ∷ cs) (v ∷ vs) n h l (suc k) d m = fills-pushed cs vs n (all-tail (λ x. length x.values ≡ n) c cs h) (omega arith) k d (omega arith)

pub long-pushed : (cs : List KindedValues) (vs : List Value) (n : ℕ) → All (λ c. n ≤ length c.values) cs → All (λ c. n ≤ length c.values) (all_with cs vs)
long-pushed [] vs n h k d m = absurd (omega (arith, length-all_with [] vs))
long-pushed (c ∷ cs) [] n h k d m = h k d m
long-pushed (c ∷ cs) (v ∷ vs) n h zero d m = omega (arith, length-append c.values (v ∷ []), h 0 c (omega arith))
long-pushed (c ∷ cs) (v ∷ vs) n h (suc k) d m = long-pushed cs vs n (all-tail (λ x. n ≤ length x.values) c cs h) k d (omega arith)

pub are_kinds-at : (kinds : List Kind) (i : ℕ) (d : Kind) → are_kinds kinds ≡ true → i < length kinds → is_kind (get_or kinds i d) ≡ true
are_kinds-at [] i d h l = absurd (omega arith)
are_kinds-at (k ∷ ks) zero d h l = left_of _ _ h
are_kinds-at (k ∷ ks) (suc i) d h l = are_kinds-at ks i d (right_of _ _ h) (omega arith)

pub empties-more : (kinds : List Kind) (i : ℕ) (d : Kind) → i < length kinds → empties (take (i + 1) kinds) ≡ empties (take i kinds) ++ record { kind = get_or kinds i d; values = [] } ∷ []
empties-more kinds i d h = map_more (λ k. record { kind = k; values = [] }) kinds i d h

pub kinds-empties : (kinds : List Kind) → kinds_of (empties kinds) ≡ kinds
kinds-empties [] = refl
kinds-empties (k ∷ ks) = ap (λ t. k ∷ t) (kinds-empties ks)

pub fills-empties : (kinds : List Kind) → Fills (empties kinds) 0 false
fills-empties kinds = record { long = λ k d l. omega arith; even = λ e. none kinds }
  where
    none : (ks : List Kind) → All (λ c. length c.values ≡ 0) (empties ks)
    none [] k d l = absurd (omega arith)
    none (x ∷ xs) zero d l = refl
    none (x ∷ xs) (suc k) d l = none xs k d (omega arith)

pub fills-next : (cs : List KindedValues) (vs : List Value) (n : ℕ) (full : Bool) → Fills cs n full → full ≡ false → are_of (kinds_of cs) vs ≡ true → Fills (all_with cs vs) (n + 1) full
fills-next cs vs n full h e f =
    let len : length vs ≡ length cs = length-are_of (kinds_of cs) vs f ∙ length-map cs (λ (c : KindedValues). c.kind) in
    record {
      long = λ k d l. omega (arith, fills-pushed cs vs n (h.even e) len k d l);
      even = λ _. fills-pushed cs vs n (h.even e) len;
    }

pub ruleset with_steps = (length-all_with, kinds-all_with, all_with-next, all_with-more, fits-at, length-are_of)

pub ruleset push_steps = (kinds-all_with, rows-before, rows-pushed, fills-pushed, long-pushed, length-are_of)

pub ruleset empty_steps = (are_kinds-at, empties-more, kinds-empties, fills-empties)
