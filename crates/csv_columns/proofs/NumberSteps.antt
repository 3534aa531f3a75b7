-- Numbers of up to 18 digits.
use Rattle.std.proofs.Common.{◌≡◌, refl, ℕ, zero, suc, ◌+◌, ◌-◌, ◌*◌, ◌^◌, ◌≤◌, ◌<◌, pos, negsuc, Bool, true, false, Some, None, cond, unsigned_abs, lt-ltb, leb, ltb, leb-true, eqb, eq-eqb, ◌&&◌, List, length, take, drop, min, arith, ap, sym, ◌∙◌, subst, inl, inr}
use Rattle.std.proofs.Math.Nat.{pow-le-pow_right, mul-lt-mul_of_pos_right}
use Rattle.std.proofs.lemmas.Nat.{pow-add}
use Rattle.std.proofs.lemmas.Grind.{pow_more}
use Rattle.std.proofs.lemmas.Bool.{cases_lt, and_parts, and_from}
use Rattle.dfx_value.specs.Parse.{signed, if_fits, if_below}
use Rattle.dfx_value.specs.Decimal.{at_scale}
use Rattle.std.specs.Char.{is_ascii_digit}
use Rattle.dfx_value.specs.Parse.{is_empty, dec_parts}
use Rattle.dfx_value.specs.Digits.{digits, all_zeros}
use Rattle.dfx_value.specs.Kinds.{is_of}
use Rattle.dfx_value.specs.declared.kind.Kind.TheVariants as kind
use Rattle.dfx_value.specs.declared.value.Value.TheVariants as value
use Rattle.dfx_value.proofs.FieldLemmas.{parts_is}
use Rattle.dfx_value.proofs.DecimalLemmas.{ten_positive}
use Rattle.dfx_value.proofs.ParseLemmas.{digits_stop_at, digits_more_at, digits_end_at}

pub ten_up : (j k : ℕ) → j ≤ k → 10 ^ j ≤ 10 ^ k
ten_up j k h = pow-le-pow_right {n = 10} (omega arith) h

-- one digit more
pub digit_more : (n d k : ℕ) → n < 10 ^ k → d ≤ 9 → n * 10 + d < 10 ^ (k + 1)
digit_more n d k h l = omega (arith, pow_more 10 k)

-- a number of up to 18 digits fits
pub short_below : (n k : ℕ) → n < 10 ^ k → k ≤ 18 → n < 10 ^ 18
short_below n k h l = omega (arith, ten_up k 18 l)

pub ten_fits : (k : ℕ) → k ≤ 18 → 10 ^ k < 2 ^ 64
ten_fits k h = omega (arith, ten_up k 18 h)

pub fits_short : (minus : Bool) (n : ℕ) → n < 10 ^ 18 → if_fits (signed minus n) ≡ Some (signed minus n)
fits_short false n h = ap (λ b. cond b (Some (pos n)) None) (lt-ltb n (2 ^ 63) (omega arith))
fits_short true zero h = refl
fits_short true (suc n) h = ap (λ b. cond b (Some (negsuc n)) None) (lt-ltb n (2 ^ 63) (omega arith))

pub abs_signed : (minus : Bool) (n : ℕ) → unsigned_abs (signed minus n) ≡ n
abs_signed false n = refl
abs_signed true zero = refl
abs_signed true (suc n) = refl

-- zeros behind the digits of a fraction, up to its scale
pub raised_fits : (n w f s : ℕ) → n < 10 ^ (w + min s f) → n * 10 ^ (s - f) < 10 ^ (w + s)
raised_fits n w f s h = elim (cases_lt f s) [
  | inl l ↦
      let few : min s f ≡ f = omega arith in
      let below : n < 10 ^ (w + f) = subst (λ k. n < 10 ^ (w + k)) few h in
      let more : n * 10 ^ (s - f) < 10 ^ (w + f) * 10 ^ (s - f) = mul-lt-mul_of_pos_right below (ten_positive (s - f)) in
      let whole : 10 ^ (w + f) * 10 ^ (s - f) ≡ 10 ^ (w + s) = sym (pow-add 10 (w + f) (s - f)) ∙ ap (λ k. 10 ^ k) (let same : w + f + (s - f) ≡ w + s = omega arith in same) in
      omega arith
  | inr l ↦
      let few : min s f ≡ s = omega arith in
      let none : s - f ≡ 0 = omega arith in
      let below : n < 10 ^ (w + s) = subst (λ k. n < 10 ^ (w + k)) few h in
      let same : n * 10 ^ (s - f) ≡ n * 10 ^ 0 = ap (λ k. n * 10 ^ k) none in
      omega arith
]

pub below_precision : (p s : ℕ) (minus : Bool) (n k : ℕ) → n < 10 ^ k → k ≤ p → if_below p s minus n ≡ Some (at_scale (signed minus n) s)
below_precision p s minus n k h l = ap (λ b. cond b (Some (at_scale (signed minus n) s)) None) (lt-ltb n (10 ^ p) (omega (arith, ten_up k p l)))

pub digit_low : (b : ℕ) → is_ascii_digit b ≡ true → b - 48 ≤ 9
digit_low b h =
    let both = and_parts (leb 48 b) (leb b 57) h in
    omega (arith, leb-true b 57 both.1)

-- a decimal of up to 18 digits
pub decimal_is : (p s : ℕ) (minus : Bool) (w f : List ℕ) (a b : ℕ) → p ≤ 38 → (is_empty w && is_empty f) ≡ false → all_zeros (drop s f) ≡ true
    → Some a ≡ digits 0 w → Some b ≡ digits a (take s f) → b * 10 ^ (s - length f) < 10 ^ (length w + s) → length w + s ≤ p
    → dec_parts p s minus w f ≡ Some (at_scale (signed minus (b * 10 ^ (s - length f))) s)
decimal_is p s minus w f a b h some zeros da db low few =
    parts_is p s minus w f h
    ∙ rw (some, zeros, ← da, ← db) (below_precision p s minus (b * 10 ^ (s - length f)) (length w + s) low few)

pub decimal_fits : (p s : ℕ) (minus : Bool) (m k : ℕ) → m < 10 ^ k → k ≤ p → is_of (kind.Dec p s) (value.Dec (at_scale (signed minus m) s)) ≡ true
decimal_fits p s minus m k h l =
    and_from (eqb s s) (ltb (unsigned_abs (signed minus m)) (10 ^ p)) (eq-eqb s s refl) (rw (abs_signed minus m) (lt-ltb m (10 ^ p) (omega (arith, ten_up k p l))))

pub ruleset digit_steps = (digits_stop_at, digits_more_at, digits_end_at, digit_more, short_below)

pub ruleset whole_steps = (fits_short)

pub ruleset raised_steps = (ten_fits, short_below)
