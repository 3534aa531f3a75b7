-- Sizes of parts of columns.
use Rattle.std.proofs.Common.{◌≡◌, refl, ℕ, zero, suc, ◌+◌, ◌-◌, ◌*◌, ◌<◌, ◌≤◌, ◌^◌, min, List, [], ◌∷◌, length, get_or, take, drop, map, ap, sym, ◌∙◌, arith, Option, Some, None, Bool, ℤ}
use Rattle.std.specs.Prelude.{slice_range}
use Rattle.std.proofs.lemmas.List.{drop_more, length-take-le, length-drop, length-map}
use Rattle.dfx_value.specs.Rows.{value_size, row_size}
use Rattle.dfx_value.specs.declared.value.Value.{Value}
use Rattle.dfx_value.specs.declared.value.Value.TheVariants as value
use Rattle.value_columns.specs.Columns.{or_null}
use Rattle.value_columns.specs.Storage.{at_scale}
use Rattle.value_columns.proofs.ColumnLemmas.{map-part, length-values}

-- the first of a part
pub part-first : {A : Type 0} (xs : List A) (a b : ℕ) (d : A) → a < b → b ≤ length xs → slice_range xs a b ≡ get_or xs a d ∷ slice_range xs (a + 1) b
part-first xs a b d h l =
    let more : b - a ≡ suc (b - (a + 1)) = omega arith in
    ap (λ n. take n (drop a xs)) more ∙ ap (take (suc (b - (a + 1)))) (drop_more xs a d (omega arith))

pub part-none : {A : Type 0} (xs : List A) (a : ℕ) → slice_range xs a a ≡ []
part-none xs a = ap (λ n. take n (drop a xs)) {x = a - a} {y = 0} (omega arith)

pub size-first : (xs : List (Option (List ℕ))) (a b : ℕ) → a < b → b ≤ length xs
    → row_size (map (or_null value.Text) (slice_range xs a b))
    ≡ 16 + value_size (or_null value.Text (get_or xs a None)) + row_size (map (or_null value.Text) (slice_range xs (a + 1) b))
size-first xs a b h l = ap (λ t. row_size (map (or_null value.Text) t)) (part-first xs a b None h l)

pub size-none : (xs : List (Option (List ℕ))) (a : ℕ) → row_size (map (or_null value.Text) (slice_range xs a a)) ≡ 0
size-none xs a = ap (λ t. row_size (map (or_null value.Text) t)) (part-none xs a)

pub ruleset text_steps = (size-first, size-none)

-- values that are no texts
size-plain : {A : Type 0} (f : A → Value) (h : (x : A) → value_size (f x) ≡ 0) (xs : List (Option A)) → row_size (map (or_null f) xs) ≡ 16 * length xs
size-plain f h [] = refl
size-plain f h (None ∷ xs) = omega (arith, size-plain f h xs)
size-plain f h (Some x ∷ xs) = omega (arith, size-plain f h xs, h x)

size-plain_part : {A : Type 0} (f : A → Value) (h : (x : A) → value_size (f x) ≡ 0) (xs : List (Option A)) (a b : ℕ) → a ≤ b → b ≤ length xs
    → row_size (slice_range (map (or_null f) xs) a b) ≡ 16 * (b - a)
size-plain_part f h xs a b l m =
    ap row_size (map-part (or_null f) xs a b) ∙ size-plain f h (slice_range xs a b)
    ∙ ap (λ n. 16 * n) (length-take-le (b - a) (drop a xs) (omega (arith, length-drop a xs)))

pub size-truths : (xs : List (Option Bool)) (a b : ℕ) → a ≤ b → b ≤ length xs → row_size (slice_range (map (or_null value.Bool) xs) a b) ≡ 16 * (b - a)
size-truths xs a b l m = size-plain_part value.Bool (λ x. refl) xs a b l m

pub size-ints : (xs : List (Option ℤ)) (a b : ℕ) → a ≤ b → b ≤ length xs → row_size (slice_range (map (or_null value.Int) xs) a b) ≡ 16 * (b - a)
size-ints xs a b l m = size-plain_part value.Int (λ x. refl) xs a b l m

pub size-decimals : (s : ℕ) (xs : List (Option ℤ)) (a b : ℕ) → a ≤ b → b ≤ length xs → row_size (slice_range (map (or_null (at_scale s)) xs) a b) ≡ 16 * (b - a)
size-decimals s xs a b l m = size-plain_part (at_scale s) (λ x. refl) xs a b l m

pub size-texts : (xs : List (Option (List ℕ))) (a b : ℕ) → row_size (slice_range (map (or_null value.Text) xs) a b) ≡ row_size (map (or_null value.Text) (slice_range xs a b))
size-texts xs a b = ap row_size (map-part (or_null value.Text) xs a b)

pub ruleset size_steps = (size-truths, size-ints, size-decimals, size-texts, length-values)
