-- Worked examples of dfx_value's definitions, by computing: the values of fields, decimal arithmetic, the order of values.
use Rattle.std.specs.Prelude.{ℕ, ◌-◌, ◌^◌, ◌&&◌, ℤ, pos, neg_ℤ, Bool, true, false, codes, List, [], ◌∷◌, Option, Some, None, Result, Ok, Err, if◌then◌else◌}
use Rattle.std.proofs.Common.{◌≡◌, refl}
use Rattle.std.specs.declared.cmp.Ordering.{Ordering}
use Rattle.std.specs.declared.cmp.Ordering.TheVariants.{Less, Equal, Greater}
use Rattle.std.specs.Str.Lossy.{utf8_valid_len}
use Rattle.dfx_value.specs.declared.fault.EvalFault.{EvalFault}
use Rattle.dfx_value.specs.declared.fault.EvalFault.TheVariants as fault
use Rattle.dfx_value.specs.declared.kind.Kind.{Kind}
use Rattle.dfx_value.specs.declared.kind.Kind.TheVariants as kind
use Rattle.dfx_value.specs.declared.value.Value.{Value}
use Rattle.dfx_value.specs.declared.value.Value.TheVariants as value
use Rattle.std.specs.Fmt.{digits}
use Rattle.std.specs.Str.{is_utf8, chars}
use lib.Utf8.{encode}
use Rattle.dfx_value.specs.Number.{Number}
use Rattle.dfx_value.specs.Decimal.{at_scale, units, add, sub, mul, raised, fit, rescale, mean, half_away, nearest}
use Rattle.dfx_value.specs.declared.rows.SortKey.{SortKey}
use Rattle.dfx_value.specs.Order.{value_cmp}
use Rattle.dfx_value.specs.Rows.{row_cmp}
use Rattle.dfx_value.specs.Parse.{parsed, int_of, dec_of, dec_parts, natural, units_at}
use Rattle.dfx_value.specs.Print.{printed, decimal_text}

-- ---- fields: the printed text of the value that a field writes

abbrev shown : Option Value → List ℕ
shown None = codes "refused"
shown (Some value.Null) = codes "NULL"
shown (Some v) = printed v

abbrev field : Kind → List ℕ → List ℕ
field k bs = shown (parsed k bs)

abbrev of_number : Result Number EvalFault → List ℕ
unfolding decimal_text
of_number (Ok d) = decimal_text d
of_number (Err fault.Overflow) = codes "overflow"
of_number (Err f) = codes "another fault"

truth-1 : field kind.Bool (codes "true") ≡ codes "true"
unfolding int_of dec_of dec_parts natural units_at decimal_text digits
truth-1 = refl

truth-2 : field kind.Bool (codes "FALSE") ≡ codes "false"
unfolding int_of dec_of dec_parts natural units_at decimal_text digits
truth-2 = refl

truth-3 : field kind.Bool (codes "") ≡ codes "NULL"
unfolding int_of dec_of dec_parts natural units_at decimal_text digits
truth-3 = refl

truth-4 : field kind.Bool (codes "1") ≡ codes "refused"
unfolding int_of dec_of dec_parts natural units_at decimal_text digits
truth-4 = refl

truth-5 : field kind.Bool (codes " true") ≡ codes "refused"
unfolding int_of dec_of dec_parts natural units_at decimal_text digits
truth-5 = refl

text-1 : field kind.Text (codes "") ≡ codes "NULL"
unfolding int_of dec_of dec_parts natural units_at decimal_text digits
text-1 = refl

text-2 : field kind.Text ((32 ∷ 97 ∷ 10 ∷ 34 ∷ 195 ∷ 169 ∷ [])) ≡ (32 ∷ 97 ∷ 10 ∷ 34 ∷ 195 ∷ 169 ∷ [])
unfolding is_utf8 chars encode
text-2 = refl

text-3 : field kind.Text (codes "NULL") ≡ codes "NULL"
unfolding is_utf8 chars encode
text-3 = refl

whole-1 : field kind.Int (codes "") ≡ codes "NULL"
unfolding int_of dec_of dec_parts natural units_at decimal_text digits
whole-1 = refl

whole-2 : field kind.Int (codes "-12") ≡ codes "-12"
unfolding int_of dec_of dec_parts natural units_at decimal_text digits
whole-2 = refl

whole-3 : field kind.Int (codes "+007") ≡ codes "7"
unfolding int_of dec_of dec_parts natural units_at decimal_text digits
whole-3 = refl

whole-4 : field kind.Int (codes "-0") ≡ codes "0"
unfolding int_of dec_of dec_parts natural units_at decimal_text digits
whole-4 = refl

whole-5 : field kind.Int (codes "9223372036854775807") ≡ codes "9223372036854775807"
unfolding int_of dec_of dec_parts natural units_at decimal_text digits
whole-5 = refl

whole-6 : field kind.Int (codes "-9223372036854775808") ≡ codes "-9223372036854775808"
unfolding int_of dec_of dec_parts natural units_at decimal_text digits
whole-6 = refl

whole-7 : field kind.Int (codes "9223372036854775808") ≡ codes "refused"
unfolding int_of dec_of dec_parts natural units_at decimal_text digits
whole-7 = refl

whole-8 : field kind.Int (codes "-9223372036854775809") ≡ codes "refused"
unfolding int_of dec_of dec_parts natural units_at decimal_text digits
whole-8 = refl

whole-9 : field kind.Int (codes "99999999999999999999999999999999999999999") ≡ codes "refused"
unfolding int_of dec_of dec_parts natural units_at decimal_text digits
whole-9 = refl

whole-10 : field kind.Int (codes "+") ≡ codes "refused"
unfolding int_of dec_of dec_parts natural units_at decimal_text digits
whole-10 = refl

whole-11 : field kind.Int (codes "1 ") ≡ codes "refused"
unfolding int_of dec_of dec_parts natural units_at decimal_text digits
whole-11 = refl

whole-12 : field kind.Int (codes "1.0") ≡ codes "refused"
unfolding int_of dec_of dec_parts natural units_at decimal_text digits
whole-12 = refl

whole-13 : field kind.Int ((217 ∷ 161 ∷ [])) ≡ codes "refused"
unfolding int_of dec_of dec_parts natural units_at decimal_text digits
whole-13 = refl

short-1 : field (kind.Dec 5 2) (codes "") ≡ codes "NULL"
unfolding int_of dec_of dec_parts natural units_at decimal_text digits
short-1 = refl

short-2 : field (kind.Dec 5 2) (codes "1.5") ≡ codes "1.50"
unfolding int_of dec_of dec_parts natural units_at decimal_text digits
short-2 = refl

short-3 : field (kind.Dec 5 2) (codes "-.5") ≡ codes "-0.50"
unfolding int_of dec_of dec_parts natural units_at decimal_text digits
short-3 = refl

short-4 : field (kind.Dec 5 2) (codes "+5.") ≡ codes "5.00"
unfolding int_of dec_of dec_parts natural units_at decimal_text digits
short-4 = refl

short-5 : field (kind.Dec 5 2) (codes "-0") ≡ codes "0.00"
unfolding int_of dec_of dec_parts natural units_at decimal_text digits
short-5 = refl

short-6 : field (kind.Dec 5 2) (codes "001.2300") ≡ codes "1.23"
unfolding int_of dec_of dec_parts natural units_at decimal_text digits
short-6 = refl

short-7 : field (kind.Dec 5 2) (codes "1.234") ≡ codes "refused"
unfolding int_of dec_of dec_parts natural units_at decimal_text digits
short-7 = refl

short-8 : field (kind.Dec 5 2) (codes "999.99") ≡ codes "999.99"
unfolding int_of dec_of dec_parts natural units_at decimal_text digits
short-8 = refl

short-9 : field (kind.Dec 5 2) (codes "-999.99") ≡ codes "-999.99"
unfolding int_of dec_of dec_parts natural units_at decimal_text digits
short-9 = refl

short-10 : field (kind.Dec 5 2) (codes "1000") ≡ codes "refused"
unfolding int_of dec_of dec_parts natural units_at decimal_text digits
short-10 = refl

short-11 : field (kind.Dec 5 2) (codes ".") ≡ codes "refused"
unfolding int_of dec_of dec_parts natural units_at decimal_text digits
short-11 = refl

short-12 : field (kind.Dec 5 2) (codes "-") ≡ codes "refused"
unfolding int_of dec_of dec_parts natural units_at decimal_text digits
short-12 = refl

short-13 : field (kind.Dec 5 2) (codes "1.2.3") ≡ codes "refused"
unfolding int_of dec_of dec_parts natural units_at decimal_text digits
short-13 = refl

short-14 : field (kind.Dec 5 2) (codes "1e2") ≡ codes "refused"
unfolding int_of dec_of dec_parts natural units_at decimal_text digits
short-14 = refl

long-1 : field (kind.Dec 38 0) (codes "12.000") ≡ codes "12"
unfolding int_of dec_of dec_parts natural units_at decimal_text digits
long-1 = refl

long-2 : field (kind.Dec 38 0) (codes "99999999999999999999999999999999999999") ≡ codes "99999999999999999999999999999999999999"
unfolding int_of dec_of dec_parts natural units_at decimal_text digits
long-2 = refl

long-3 : field (kind.Dec 38 0) (codes "100000000000000000000000000000000000000") ≡ codes "refused"
unfolding int_of dec_of dec_parts natural units_at decimal_text digits
long-3 = refl

fine-1 : field (kind.Dec 38 38) (codes "1") ≡ codes "refused"
unfolding int_of dec_of dec_parts natural units_at decimal_text digits
fine-1 = refl

fine-2 : field (kind.Dec 38 38) (codes "0.5") ≡ codes "0.50000000000000000000000000000000000000"
unfolding int_of dec_of dec_parts natural units_at decimal_text digits
fine-2 = refl

fine-3 : field (kind.Dec 38 38) (codes "-.00000000000000000000000000000000000001") ≡ codes "-0.00000000000000000000000000000000000001"
unfolding int_of dec_of dec_parts natural units_at decimal_text digits
fine-3 = refl

-- ---- sums, differences and products

add-1 : of_number (add (at_scale (pos 15) 1) (at_scale (pos 225) 2)) ≡ codes "3.75"
unfolding add sub mul raised fit decimal_text digits
add-1 = refl

sub-1 : of_number (sub (at_scale (pos 15) 1) (at_scale (pos 225) 2)) ≡ codes "-0.75"
unfolding add sub mul raised fit decimal_text digits
sub-1 = refl

mul-1 : of_number (mul (at_scale (pos 15) 1) (at_scale (pos 225) 2)) ≡ codes "3.375"
unfolding add sub mul raised fit decimal_text digits
mul-1 = refl

add-2 : of_number (add (at_scale (pos 1) 1) (at_scale (pos 2) 1)) ≡ codes "0.3"
unfolding add sub mul raised fit decimal_text digits
add-2 = refl

sub-2 : of_number (sub (at_scale (pos 1) 1) (at_scale (pos 2) 1)) ≡ codes "-0.1"
unfolding add sub mul raised fit decimal_text digits
sub-2 = refl

mul-2 : of_number (mul (at_scale (pos 1) 1) (at_scale (pos 2) 1)) ≡ codes "0.02"
unfolding add sub mul raised fit decimal_text digits
mul-2 = refl

add-3 : of_number (add (at_scale (neg_ℤ (pos 5)) 1) (at_scale (pos 5) 1)) ≡ codes "0.0"
unfolding add sub mul raised fit decimal_text digits
add-3 = refl

sub-3 : of_number (sub (at_scale (neg_ℤ (pos 5)) 1) (at_scale (pos 5) 1)) ≡ codes "-1.0"
unfolding add sub mul raised fit decimal_text digits
sub-3 = refl

mul-3 : of_number (mul (at_scale (neg_ℤ (pos 5)) 1) (at_scale (pos 5) 1)) ≡ codes "-0.25"
unfolding add sub mul raised fit decimal_text digits
mul-3 = refl

add-4 : of_number (add (at_scale (pos 0) 2) (at_scale (neg_ℤ (pos 1)) 0)) ≡ codes "-1.00"
unfolding add sub mul raised fit decimal_text digits
add-4 = refl

sub-4 : of_number (sub (at_scale (pos 0) 2) (at_scale (neg_ℤ (pos 1)) 0)) ≡ codes "1.00"
unfolding add sub mul raised fit decimal_text digits
sub-4 = refl

mul-4 : of_number (mul (at_scale (pos 0) 2) (at_scale (neg_ℤ (pos 1)) 0)) ≡ codes "0.00"
unfolding add sub mul raised fit decimal_text digits
mul-4 = refl

add-5 : of_number (add (at_scale (pos 99999999999999999999999999999999999999) 0) (at_scale (pos 1) 0)) ≡ codes "overflow"
unfolding add sub mul raised fit decimal_text digits
add-5 = refl

sub-5 : of_number (sub (at_scale (pos 99999999999999999999999999999999999999) 0) (at_scale (pos 1) 0)) ≡ codes "99999999999999999999999999999999999998"
unfolding add sub mul raised fit decimal_text digits
sub-5 = refl

mul-5 : of_number (mul (at_scale (pos 99999999999999999999999999999999999999) 0) (at_scale (pos 1) 0)) ≡ codes "99999999999999999999999999999999999999"
unfolding add sub mul raised fit decimal_text digits
mul-5 = refl

add-6 : of_number (add (at_scale (neg_ℤ (pos 99999999999999999999999999999999999999)) 0) (at_scale (pos 1) 0)) ≡ codes "-99999999999999999999999999999999999998"
unfolding add sub mul raised fit decimal_text digits
add-6 = refl

sub-6 : of_number (sub (at_scale (neg_ℤ (pos 99999999999999999999999999999999999999)) 0) (at_scale (pos 1) 0)) ≡ codes "overflow"
unfolding add sub mul raised fit decimal_text digits
sub-6 = refl

mul-6 : of_number (mul (at_scale (neg_ℤ (pos 99999999999999999999999999999999999999)) 0) (at_scale (pos 1) 0)) ≡ codes "-99999999999999999999999999999999999999"
unfolding add sub mul raised fit decimal_text digits
mul-6 = refl

add-7 : of_number (add (at_scale (pos 99999999999999999999999999999999999999) 0) (at_scale (pos 99999999999999999999999999999999999999) 0)) ≡ codes "overflow"
unfolding add sub mul raised fit decimal_text digits
add-7 = refl

sub-7 : of_number (sub (at_scale (pos 99999999999999999999999999999999999999) 0) (at_scale (pos 99999999999999999999999999999999999999) 0)) ≡ codes "0"
unfolding add sub mul raised fit decimal_text digits
sub-7 = refl

mul-7 : of_number (mul (at_scale (pos 99999999999999999999999999999999999999) 0) (at_scale (pos 99999999999999999999999999999999999999) 0)) ≡ codes "overflow"
unfolding add sub mul raised fit decimal_text digits
mul-7 = refl

add-8 : of_number (add (at_scale (pos 10000000000000000000) 0) (at_scale (pos 10000000000000000000) 0)) ≡ codes "20000000000000000000"
unfolding add sub mul raised fit decimal_text digits
add-8 = refl

sub-8 : of_number (sub (at_scale (pos 10000000000000000000) 0) (at_scale (pos 10000000000000000000) 0)) ≡ codes "0"
unfolding add sub mul raised fit decimal_text digits
sub-8 = refl

mul-8 : of_number (mul (at_scale (pos 10000000000000000000) 0) (at_scale (pos 10000000000000000000) 0)) ≡ codes "overflow"
unfolding add sub mul raised fit decimal_text digits
mul-8 = refl

add-9 : of_number (add (at_scale (pos 10000000000000000001) 0) (at_scale (pos 9999999999999999999) 0)) ≡ codes "20000000000000000000"
unfolding add sub mul raised fit decimal_text digits
add-9 = refl

sub-9 : of_number (sub (at_scale (pos 10000000000000000001) 0) (at_scale (pos 9999999999999999999) 0)) ≡ codes "2"
unfolding add sub mul raised fit decimal_text digits
sub-9 = refl

mul-9 : of_number (mul (at_scale (pos 10000000000000000001) 0) (at_scale (pos 9999999999999999999) 0)) ≡ codes "99999999999999999999999999999999999999"
unfolding add sub mul raised fit decimal_text digits
mul-9 = refl

add-10 : of_number (add (at_scale (pos 1) 0) (at_scale (pos 1) 38)) ≡ codes "overflow"
unfolding add sub mul raised fit decimal_text digits
add-10 = refl

sub-10 : of_number (sub (at_scale (pos 1) 0) (at_scale (pos 1) 38)) ≡ codes "overflow"
unfolding add sub mul raised fit decimal_text digits
sub-10 = refl

mul-10 : of_number (mul (at_scale (pos 1) 0) (at_scale (pos 1) 38)) ≡ codes "0.00000000000000000000000000000000000001"
unfolding add sub mul raised fit decimal_text digits
mul-10 = refl

-- ---- rounding

rescale-1 : of_number (rescale (at_scale (pos 25) 1) 0) ≡ codes "3"
unfolding rescale raised fit half_away nearest decimal_text digits
rescale-1 = refl

rescale-2 : of_number (rescale (at_scale (neg_ℤ (pos 25)) 1) 0) ≡ codes "-3"
unfolding rescale raised fit half_away nearest decimal_text digits
rescale-2 = refl

rescale-3 : of_number (rescale (at_scale (pos 24) 1) 0) ≡ codes "2"
unfolding rescale raised fit half_away nearest decimal_text digits
rescale-3 = refl

rescale-4 : of_number (rescale (at_scale (pos 49) 2) 0) ≡ codes "0"
unfolding rescale raised fit half_away nearest decimal_text digits
rescale-4 = refl

rescale-5 : of_number (rescale (at_scale (neg_ℤ (pos 49)) 2) 0) ≡ codes "0"
unfolding rescale raised fit half_away nearest decimal_text digits
rescale-5 = refl

rescale-6 : of_number (rescale (at_scale (neg_ℤ (pos 5)) 1) 0) ≡ codes "-1"
unfolding rescale raised fit half_away nearest decimal_text digits
rescale-6 = refl

rescale-7 : of_number (rescale (at_scale (pos 125) 2) 1) ≡ codes "1.3"
unfolding rescale raised fit half_away nearest decimal_text digits
rescale-7 = refl

rescale-8 : of_number (rescale (at_scale (neg_ℤ (pos 135)) 2) 1) ≡ codes "-1.4"
unfolding rescale raised fit half_away nearest decimal_text digits
rescale-8 = refl

rescale-9 : of_number (rescale (at_scale (pos 9995) 3) 2) ≡ codes "10.00"
unfolding rescale raised fit half_away nearest decimal_text digits
rescale-9 = refl

rescale-10 : of_number (rescale (at_scale (pos 1) 0) 3) ≡ codes "1.000"
unfolding rescale raised fit half_away nearest decimal_text digits
rescale-10 = refl

rescale-11 : of_number (rescale (at_scale (pos 7) 2) 2) ≡ codes "0.07"
unfolding rescale raised fit half_away nearest decimal_text digits
rescale-11 = refl

rescale-12 : of_number (rescale (at_scale (pos 99999999999999999999999999999999999999) 0) 1) ≡ codes "overflow"
unfolding rescale raised fit half_away nearest decimal_text digits
rescale-12 = refl

rescale-13 : of_number (rescale (at_scale (pos 99999999999999999999999999999999999999) 38) 37) ≡ codes "1.0000000000000000000000000000000000000"
unfolding rescale raised fit half_away nearest decimal_text digits
rescale-13 = refl

mean-1 : of_number (mean (at_scale (pos 10) 0) 4 4) ≡ codes "2.5000"
unfolding mean fit half_away nearest decimal_text digits
mean-1 = refl

mean-2 : of_number (mean (at_scale (pos 1) 0) 3 4) ≡ codes "0.3333"
unfolding mean fit half_away nearest decimal_text digits
mean-2 = refl

mean-3 : of_number (mean (at_scale (pos 2) 0) 3 4) ≡ codes "0.6667"
unfolding mean fit half_away nearest decimal_text digits
mean-3 = refl

mean-4 : of_number (mean (at_scale (neg_ℤ (pos 2)) 0) 3 4) ≡ codes "-0.6667"
unfolding mean fit half_away nearest decimal_text digits
mean-4 = refl

mean-5 : of_number (mean (at_scale (pos 1) 0) 2 0) ≡ codes "1"
unfolding mean fit half_away nearest decimal_text digits
mean-5 = refl

mean-6 : of_number (mean (at_scale (neg_ℤ (pos 1)) 0) 2 0) ≡ codes "-1"
unfolding mean fit half_away nearest decimal_text digits
mean-6 = refl

mean-7 : of_number (mean (at_scale (neg_ℤ (pos 25)) 2) 2 2) ≡ codes "-0.13"
unfolding mean fit half_away nearest decimal_text digits
mean-7 = refl

mean-8 : of_number (mean (at_scale (pos 25) 2) 2 3) ≡ codes "0.125"
unfolding mean fit half_away nearest decimal_text digits
mean-8 = refl

mean-9 : of_number (mean (at_scale (pos 1) 0) 18446744073709551615 18) ≡ codes "0.000000000000000000"
unfolding mean fit half_away nearest decimal_text digits
mean-9 = refl

mean-10 : of_number (mean (at_scale (pos 2) 0) 3 18) ≡ codes "0.666666666666666667"
unfolding mean fit half_away nearest decimal_text digits
mean-10 = refl

mean-11 : of_number (mean (at_scale (pos 99999999999999999999999999999999999999) 0) 1 0) ≡ codes "99999999999999999999999999999999999999"
unfolding mean fit half_away nearest decimal_text digits
mean-11 = refl

mean-12 : of_number (mean (at_scale (pos 99999999999999999999999999999999999999) 34) 1 38) ≡ codes "overflow"
unfolding mean fit half_away nearest decimal_text digits
mean-12 = refl

-- ---- the order of values: in this list each is equal to itself, and below those behind it

abbrev nines : ℕ
nines = 10 ^ 38 - 1

abbrev dec : ℤ → ℕ → Value
dec n s = value.Dec (at_scale n s)

abbrev text : List ℕ → Value
text bs = value.Text bs

abbrev rising : List Value
rising =
    value.Null ∷ value.Bool false ∷ value.Bool true ∷ dec (neg_ℤ (pos nines)) 0 ∷ value.Int (neg_ℤ (pos (2 ^ 63))) ∷ dec (neg_ℤ (pos 15)) 1
    ∷ value.Int (neg_ℤ (pos 1)) ∷ dec (neg_ℤ (pos 1)) 38 ∷ value.Int (pos 0) ∷ dec (pos 1) 38 ∷ dec (pos 99) 2 ∷ value.Int (pos 1)
    ∷ dec (pos 10001) 4 ∷ value.Int (pos (2 ^ 63 - 1)) ∷ dec (pos nines) 0 ∷ text [] ∷ text (codes "A") ∷ text (codes "AB")
    ∷ text (codes "a") ∷ text (195 ∷ 169 ∷ []) ∷ []

abbrev both : Value → Value → List Ordering
both v w = value_cmp v w ∷ value_cmp w v ∷ []

abbrev is_below : List Ordering → Bool
is_below (Less ∷ Greater ∷ []) = true
is_below _ = false

abbrev is_equal : List Ordering → Bool
is_equal (Equal ∷ Equal ∷ []) = true
is_equal _ = false

abbrev below_all : Value → List Value → Bool
below_all v [] = true
below_all v (w ∷ ws) = is_below (both v w) && below_all v ws

abbrev ascends : List Value → Bool
ascends [] = true
ascends (v ∷ vs) = is_equal (both v v) && below_all v vs && ascends vs

they_rise : ascends rising ≡ true
unfolding value_cmp units
they_rise = refl

halves : is_equal (both (dec (pos 50) 2) (dec (pos 5) 1)) ≡ true
unfolding value_cmp units
halves = refl

twos : is_equal (both (value.Int (pos 2)) (dec (pos 200) 2)) ≡ true
unfolding value_cmp units
twos = refl

-- ---- the order of rows by two keys, the second ascending

abbrev by_two : Bool → Bool → List Value → List Value → List Ordering
by_two descending nulls_first a b =
    let keys : List SortKey = record { column = 0; descending = descending; nulls_first = nulls_first } ∷ record { column = 1; descending = false; nulls_first = true } ∷ [] in
    row_cmp keys a b ∷ row_cmp keys b a ∷ []

abbrev row : Value → List ℕ → List Value
row v t = v ∷ text t ∷ []

rows-1 : by_two false false (row (value.Int (pos 1)) (codes "b")) (row (value.Int (pos 2)) (codes "a")) ≡ Less ∷ Greater ∷ []
unfolding value_cmp units
rows-1 = refl

rows-2 : by_two true false (row (value.Int (pos 1)) (codes "b")) (row (value.Int (pos 2)) (codes "a")) ≡ Greater ∷ Less ∷ []
unfolding value_cmp units
rows-2 = refl

rows-3 : by_two true true (row (value.Int (pos 1)) (codes "b")) (row (value.Int (pos 1)) (codes "a")) ≡ Greater ∷ Less ∷ []
unfolding value_cmp units
rows-3 = refl

rows-4 : by_two true false (row (value.Int (pos 1)) (codes "a")) (row (value.Int (pos 1)) (codes "a")) ≡ Equal ∷ Equal ∷ []
unfolding value_cmp units
rows-4 = refl

rows-5 : by_two false false (row value.Null (codes "a")) (row (value.Int (pos 2)) (codes "a")) ≡ Greater ∷ Less ∷ []
unfolding value_cmp units
rows-5 = refl

rows-6 : by_two false true (row value.Null (codes "a")) (row (value.Int (pos 2)) (codes "a")) ≡ Less ∷ Greater ∷ []
unfolding value_cmp units
rows-6 = refl

rows-7 : by_two true false (row value.Null (codes "a")) (row (value.Int (pos 2)) (codes "a")) ≡ Greater ∷ Less ∷ []
unfolding value_cmp units
rows-7 = refl

rows-8 : by_two true true (row value.Null (codes "a")) (row (value.Int (pos 2)) (codes "a")) ≡ Less ∷ Greater ∷ []
unfolding value_cmp units
rows-8 = refl

rows-9 : by_two true true (row value.Null (codes "a")) (row value.Null (codes "b")) ≡ Less ∷ Greater ∷ []
unfolding value_cmp units
rows-9 = refl

-- ---- texts: the place from which bytes are no UTF-8 (RFC 3629)

abbrev no_text : List ℕ → Option ℕ
no_text bs = if is_utf8 bs then None else Some (utf8_valid_len bs)

utf8-1 : no_text (97 ∷ 98 ∷ 99 ∷ 255 ∷ []) ≡ Some 3
unfolding is_utf8 chars encode utf8_valid_len
utf8-1 = refl

utf8-2 : no_text (128 ∷ []) ≡ Some 0
unfolding is_utf8 chars encode utf8_valid_len
utf8-2 = refl

utf8-3 : no_text (97 ∷ 195 ∷ []) ≡ Some 1
unfolding is_utf8 chars encode utf8_valid_len
utf8-3 = refl

utf8-4 : no_text (195 ∷ 169 ∷ 195 ∷ 40 ∷ []) ≡ Some 2
unfolding is_utf8 chars encode utf8_valid_len
utf8-4 = refl

utf8-5 : no_text (192 ∷ 128 ∷ []) ≡ Some 0
unfolding is_utf8 chars encode utf8_valid_len
utf8-5 = refl

utf8-6 : no_text (193 ∷ 191 ∷ []) ≡ Some 0
unfolding is_utf8 chars encode utf8_valid_len
utf8-6 = refl

utf8-7 : no_text (224 ∷ 159 ∷ 191 ∷ []) ≡ Some 0
unfolding is_utf8 chars encode utf8_valid_len
utf8-7 = refl

utf8-8 : no_text (237 ∷ 160 ∷ 128 ∷ []) ≡ Some 0
unfolding is_utf8 chars encode utf8_valid_len
utf8-8 = refl

utf8-9 : no_text (226 ∷ 130 ∷ []) ≡ Some 0
unfolding is_utf8 chars encode utf8_valid_len
utf8-9 = refl

utf8-10 : no_text (226 ∷ 130 ∷ 172 ∷ 128 ∷ []) ≡ Some 3
unfolding is_utf8 chars encode utf8_valid_len
utf8-10 = refl

utf8-11 : no_text (240 ∷ 143 ∷ 191 ∷ 191 ∷ []) ≡ Some 0
unfolding is_utf8 chars encode utf8_valid_len
utf8-11 = refl

utf8-12 : no_text (240 ∷ 159 ∷ 152 ∷ 128 ∷ 120 ∷ 254 ∷ []) ≡ Some 5
unfolding is_utf8 chars encode utf8_valid_len
utf8-12 = refl

utf8-13 : no_text (120 ∷ 244 ∷ 144 ∷ 128 ∷ 128 ∷ []) ≡ Some 1
unfolding is_utf8 chars encode utf8_valid_len
utf8-13 = refl

utf8-14 : no_text (245 ∷ 128 ∷ 128 ∷ 128 ∷ []) ≡ Some 0
unfolding is_utf8 chars encode utf8_valid_len
utf8-14 = refl

utf8-of-1 : no_text [] ≡ None
unfolding is_utf8 chars encode utf8_valid_len
utf8-of-1 = refl

utf8-of-2 : no_text (97 ∷ []) ≡ None
unfolding is_utf8 chars encode utf8_valid_len
utf8-of-2 = refl

utf8-of-3 : no_text (195 ∷ 169 ∷ []) ≡ None
unfolding is_utf8 chars encode utf8_valid_len
utf8-of-3 = refl

utf8-of-4 : no_text (0 ∷ []) ≡ None
unfolding is_utf8 chars encode utf8_valid_len
utf8-of-4 = refl

utf8-of-5 : no_text (237 ∷ 159 ∷ 191 ∷ 238 ∷ 128 ∷ 128 ∷ []) ≡ None
unfolding is_utf8 chars encode utf8_valid_len
utf8-of-5 = refl

utf8-of-6 : no_text (239 ∷ 191 ∷ 191 ∷ 240 ∷ 144 ∷ 128 ∷ 128 ∷ 244 ∷ 143 ∷ 191 ∷ 191 ∷ []) ≡ None
unfolding is_utf8 chars encode utf8_valid_len
utf8-of-6 = refl
