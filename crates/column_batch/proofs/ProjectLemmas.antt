-- Some columns of rows, one column, and the sizes of columns.
use Rattle.std.proofs.Common.{◌≡◌, refl, ℕ, zero, suc, ◌+◌, ◌-◌, ◌<◌, ◌≤◌, ◌^◌, List, [], ◌∷◌, ◌++◌, length, get_or, take, drop, map, ap, sym, ◌∙◌, arith, All}
use Rattle.std.specs.Prelude.{slice_range}
use Rattle.std.proofs.lemmas.List.{get_or-map, map_more, length-map, take_all}
use Rattle.std.proofs.lemmas.List.Elements.{All-tail, All-head}
use Rattle.dfx_value.specs.KindedRows.{rows_size}
use Rattle.dfx_value.specs.Rows.{cell, row_size, value_size}
use Rattle.dfx_value.specs.declared.kind.Kind.{Kind}
use Rattle.dfx_value.specs.declared.kind.Kind.TheVariants as kind
use Rattle.dfx_value.specs.declared.value.Value.{Value}
use Rattle.dfx_value.specs.declared.value.Value.TheVariants as value
use Rattle.value_columns.specs.Columns.{KindedValues}
use Rattle.value_columns.proofs.SizeLemmas.{part-first, part-none}
use Rattle.column_batch.specs.Batches.{row_at, rows_from, kinds_of, cut, cells_at, kinds_at, column_of}
use Rattle.column_batch.specs.Parts.{Reaches, Whole, columns_at, part_size}
use Rattle.column_batch.proofs.BatchLemmas.{row_at-cell}

abbrev none : KindedValues
none = record { kind = kind.Bool; values = [] }

pub columns_more : (cs : List KindedValues) (ks : List ℕ) (i : ℕ) → i < length ks
    → columns_at cs (take (i + 1) ks) ≡ columns_at cs (take i ks) ++ get_or cs (get_or ks i 0) none ∷ []
columns_more cs ks i h = map_more (λ k. get_or cs k none) ks i 0 h

-- the column at a place, where there may be none
kind-at : (cs : List KindedValues) (k : ℕ) → (get_or cs k none).kind ≡ get_or (kinds_of cs) k kind.Bool
kind-at [] k = refl
kind-at (c ∷ cs) zero = refl
kind-at (c ∷ cs) (suc k) = kind-at cs k

pub kind-within : (cs : List KindedValues) (k : ℕ) (d : KindedValues) → k < length cs → (get_or cs k d).kind ≡ get_or (kinds_of cs) k kind.Bool
kind-within [] k d h = absurd (omega arith)
kind-within (c ∷ cs) zero d h = refl
kind-within (c ∷ cs) (suc k) d h = kind-within cs k d (omega arith)

pub kinds-columns_at : (cs : List KindedValues) (ks : List ℕ) → kinds_of (columns_at cs ks) ≡ kinds_at (kinds_of cs) ks
kinds-columns_at cs [] = refl
kinds-columns_at cs (k ∷ ks) =
    let here : (get_or cs k none).kind ≡ get_or (kinds_of cs) k kind.Bool = kind-at cs k in
    let rest : kinds_of (columns_at cs ks) ≡ kinds_at (kinds_of cs) ks = kinds-columns_at cs ks in
    cc

cell-at : (cs : List KindedValues) (i k : ℕ) → get_or (get_or cs k none).values i value.Null ≡ cell (row_at cs i) k
cell-at [] i k = refl
cell-at (c ∷ cs) i zero = refl
cell-at (c ∷ cs) i (suc k) = cell-at cs i k

row-columns_at : (cs : List KindedValues) (ks : List ℕ) (i : ℕ) → row_at (columns_at cs ks) i ≡ cells_at ks (row_at cs i)
row-columns_at cs [] i = refl
row-columns_at cs (k ∷ ks) i =
    let here : get_or (get_or cs k none).values i value.Null ≡ cell (row_at cs i) k = cell-at cs i k in
    let rest : row_at (columns_at cs ks) i ≡ cells_at ks (row_at cs i) = row-columns_at cs ks i in
    cc

pub rows-columns_at : (cs : List KindedValues) (ks : List ℕ) (from n : ℕ) → rows_from (columns_at cs ks) from n ≡ map (cells_at ks) (rows_from cs from n)
rows-columns_at cs ks from zero = refl
rows-columns_at cs ks from (suc n) =
    let here : row_at (columns_at cs ks) from ≡ cells_at ks (row_at cs from) = row-columns_at cs ks from in
    let rest : rows_from (columns_at cs ks) (suc from) n ≡ map (cells_at ks) (rows_from cs (suc from) n) = rows-columns_at cs ks (suc from) n in
    cc

reaches-columns_at : (cs : List KindedValues) (last : ℕ) (ks : List ℕ) → All (Reaches last) cs → All (λ k. k < length cs) ks → All (Reaches last) (columns_at cs ks)
reaches-columns_at cs last [] h within k d l = absurd (omega arith)
reaches-columns_at cs last (x ∷ ks) h within zero d l = h x none (All-head (λ k. k < length cs) x ks within)
reaches-columns_at cs last (x ∷ ks) h within (suc k) d l = reaches-columns_at cs last ks h (All-tail (λ k. k < length cs) x ks within) k d (omega arith)

pub whole-columns_at : (cs : List KindedValues) (from n : ℕ) (ks : List ℕ) → Whole cs from n → All (λ k. k < length cs) ks → Whole (columns_at cs ks) from n
whole-columns_at cs from n ks h within = record { few = h.few; long = reaches-columns_at cs (from + n) ks h.long within }

-- the cells of a column are a part of it
pub column_of-rows : (cs : List KindedValues) (from n k : ℕ) (d : KindedValues) → k < length cs → from + n ≤ length (get_or cs k d).values
    → column_of (rows_from cs from n) k ≡ slice_range (get_or cs k d).values from (from + n)
column_of-rows cs from zero k d h l =
    sym (ap (slice_range (get_or cs k d).values from) {x = from + 0} {y = from} (omega arith) ∙ part-none (get_or cs k d).values from)
column_of-rows cs from (suc n) k d h l =
    let here : cell (row_at cs from) k ≡ get_or (get_or cs k d).values from value.Null = row_at-cell cs from k d h in
    let rest : column_of (rows_from cs (suc from) n) k ≡ slice_range (get_or cs k d).values (suc from) (suc from + n) = column_of-rows cs (suc from) n k d h (omega arith) in
    let first : slice_range (get_or cs k d).values from (from + suc n) ≡ get_or (get_or cs k d).values from value.Null ∷ slice_range (get_or cs k d).values (from + 1) (from + suc n) =
    part-first (get_or cs k d).values from (from + suc n) value.Null (omega arith) l in
    let same : slice_range (get_or cs k d).values (from + 1) (from + suc n) ≡ slice_range (get_or cs k d).values (suc from) (suc from + n) =
    ap (λ i. slice_range (get_or cs k d).values i (from + suc n)) {x = from + 1} {y = suc from} (omega arith)
    ∙ ap (slice_range (get_or cs k d).values (suc from)) {x = from + suc n} {y = suc from + n} (omega arith) in
    cc

-- a part that is all
pub part_all : (c : KindedValues) (n : ℕ) → n ≡ length c.values → slice_range c.values 0 n ≡ c.values
part_all c n h = take_all (n - 0) c.values (omega arith)

-- sizes column by column are those row by row
part_size-none : (cs : List KindedValues) (from : ℕ) → part_size cs from from ≡ 0
part_size-none [] from = refl
part_size-none (c ∷ cs) from = omega (arith, ap row_size (part-none c.values from), part_size-none cs from)

part_size-first : (cs : List KindedValues) (from to : ℕ) → from < to → All (λ c. to ≤ length c.values) cs
    → part_size cs from to ≡ row_size (row_at cs from) + part_size cs (from + 1) to
part_size-first [] from to l h = refl
part_size-first (c ∷ cs) from to l h =
    omega (
      arith,
      ap row_size (part-first c.values from to value.Null l (All-head (λ x. to ≤ length x.values) c cs h)),
      part_size-first cs from to l (All-tail (λ x. to ≤ length x.values) c cs h),
    )

pub part_size-rows : (cs : List KindedValues) (from n : ℕ) → All (λ c. from + n ≤ length c.values) cs → part_size cs from (from + n) ≡ rows_size (rows_from cs from n)
part_size-rows cs from zero h = ap (part_size cs from) {x = from + 0} {y = from} (omega arith) ∙ part_size-none cs from
part_size-rows cs from (suc n) h =
    let all : All (λ c. suc from + n ≤ length c.values) cs = λ k d l. omega (arith, h k d l) in
    let rest : part_size cs (suc from) (suc from + n) ≡ rows_size (rows_from cs (suc from) n) = part_size-rows cs (suc from) n all in
    let same : part_size cs (from + 1) (from + suc n) ≡ part_size cs (suc from) (suc from + n) =
    ap (λ i. part_size cs i (from + suc n)) {x = from + 1} {y = suc from} (omega arith) ∙ ap (part_size cs (suc from)) {x = from + suc n} {y = suc from + n} (omega arith) in
    part_size-first cs from (from + suc n) (omega arith) h ∙ ap (λ n. row_size (row_at cs from) + n) (same ∙ rest)

pub long-at : (cs : List KindedValues) (from n k : ℕ) (d : KindedValues) → Whole cs from n → k < length cs → from + n ≤ length (get_or cs k d).values
long-at cs from n k d h l = (h.long k d l).long

pub long-whole : (cs : List KindedValues) (from n : ℕ) → Whole cs from n → All (λ c. from + n ≤ length c.values) cs
long-whole cs from n h = λ k d l. (h.long k d l).long
