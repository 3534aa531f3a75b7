-- The numbers that fields write, by digits read below 10^38.
use Rattle.std.proofs.Common.{◌≡◌, refl, ℕ, zero, suc, ◌+◌, ◌-◌, ◌*◌, ◌/◌, ◌%◌, ◌^◌, ◌≤◌, ◌<◌, ℤ, pos, negsuc, neg_ℤ, Bool, true, false, ◌&&◌, not, cond, eqb, eqb-true, ltb, leb, lt-ltb, le-ltb, Option, Some, None, List, [], ◌∷◌, ◌++◌, length, take, drop, inl, inr, arith, ap, sym, ◌∙◌, subst, zero-add, lit≤}
use Rattle.std.specs.Prelude.{option_and_then}
use Rattle.std.specs.Char.{is_ascii_digit}
use Rattle.std.specs.Str.{all_ascii_digits}
use Rattle.std.proofs.Math.Nat.{add-mul, mul_comm, mul_assoc, mul-le-mul_right, le-mul_of_pos_right, mul-lt-mul_of_pos_right, mul-mod_left, mul-div_cancel, pow-suc, pow-succ'}
use Rattle.std.proofs.lemmas.Nat.{pow-add, mod-mul-add}
use Rattle.std.proofs.lemmas.Bool.{cases_Bool, cases_lt, false_from_ne_true, leb-true, ltb-true, ltb-false, and_parts, and_from}
use Rattle.std.proofs.lemmas.List.{take-append-drop, length-drop, drop_all}
use Rattle.dfx_value.specs.Number.{Number}
use Rattle.dfx_value.specs.Decimal.{at_scale}
use Rattle.dfx_value.specs.Kinds.{fits_64}
use Rattle.dfx_value.specs.Parse.{is_empty, negative, unsigned, signed, value_after, natural, if_fits, int_from, int_of, units_at, if_below, dec_parts}
use Rattle.dfx_value.specs.Digits.{digits, all_zeros}
use Rattle.dfx_value.proofs.DecimalLemmas.{ten_below, ten_positive}
use Rattle.dfx_value.proofs.ParseLemmas.{after_ge}

-- ---- digits one after another

pub value_after-append : (n : ℕ) (a b : List ℕ) → value_after n (a ++ b) ≡ value_after (value_after n a) b
value_after-append n [] b = refl
value_after-append n (x ∷ a) b = value_after-append (n * 10 + (x - 48)) a b

pub after_shift : (n : ℕ) (bs : List ℕ) → value_after n bs ≡ n * 10 ^ length bs + value_after 0 bs
after_shift n [] = omega arith
after_shift n (b ∷ bs) =
    let d = b - 48 in
    let p = 10 ^ length bs in
    let here : value_after (n * 10 + d) bs ≡ (n * 10 + d) * p + value_after 0 bs = after_shift (n * 10 + d) bs in
    let alone : value_after (0 * 10 + d) bs ≡ (0 * 10 + d) * p + value_after 0 bs = after_shift (0 * 10 + d) bs in
    let spread : (n * 10 + d) * p ≡ n * 10 * p + d * p = add-mul (n * 10) d p in
    let none : (0 * 10 + d) * p ≡ d * p = ap (λ k. k * p) (zero-add d) in
    let more : n * 10 ^ suc (length bs) ≡ n * 10 * p = ap (λ k. n * k) (pow-succ' 10 (length bs)) ∙ sym (mul_assoc n 10 p) in
    omega arith

and_assoc : (a b c : Bool) → (a && (b && c)) ≡ ((a && b) && c)
and_assoc true b c = refl
and_assoc false b c = refl

pub digits-append : (a b : List ℕ) → all_ascii_digits (a ++ b) ≡ (all_ascii_digits a && all_ascii_digits b)
digits-append [] b = refl
digits-append (x ∷ a) b = ap (λ t. is_ascii_digit x && t) (digits-append a b) ∙ and_assoc (is_ascii_digit x) (all_ascii_digits a) (all_ascii_digits b)

digit_range : (b : ℕ) → is_ascii_digit b ≡ true → (48 ≤ b) × (b ≤ 57)
digit_range b h = let both = and_parts (leb 48 b) (leb b 57) h in (leb-true 48 b both.0, leb-true b 57 both.1)

pub value_below : (bs : List ℕ) → all_ascii_digits bs ≡ true → value_after 0 bs < 10 ^ length bs
value_below [] h = omega arith
value_below (b ∷ bs) h =
    let both = and_parts (is_ascii_digit b) (all_ascii_digits bs) h in
    let low = digit_range b both.0 in
    let p = 10 ^ length bs in
    let rest : value_after 0 bs < p = value_below bs both.1 in
    let whole : value_after (0 * 10 + (b - 48)) bs ≡ (0 * 10 + (b - 48)) * p + value_after 0 bs = after_shift (0 * 10 + (b - 48)) bs in
    let bound : (0 * 10 + (b - 48)) * p ≤ 9 * p = mul-le-mul_right p (omega arith) in
    let up : 10 ^ suc (length bs) ≡ p * 10 = pow-suc 10 (length bs) in
    omega arith

-- ---- zeros

zeros_digits : (bs : List ℕ) → all_zeros bs ≡ true → all_ascii_digits bs ≡ true
zeros_digits [] h = refl
zeros_digits (b ∷ bs) h =
    let both = and_parts (eqb b 48) (all_zeros bs) h in
    and_from (is_ascii_digit b) (all_ascii_digits bs) (ap is_ascii_digit (eqb-true b 48 both.0)) (zeros_digits bs both.1)

zeros_value : (bs : List ℕ) → all_zeros bs ≡ true → value_after 0 bs ≡ 0
zeros_value [] h = refl
zeros_value (b ∷ bs) h =
    let both = and_parts (eqb b 48) (all_zeros bs) h in
    ap (λ k. value_after (0 * 10 + (k - 48)) bs) (eqb-true b 48 both.0) ∙ zeros_value bs both.1

zeros_from : (bs : List ℕ) → all_ascii_digits bs ≡ true → value_after 0 bs ≡ 0 → all_zeros bs ≡ true
zeros_from [] h e = refl
zeros_from (b ∷ bs) h e =
    let both = and_parts (is_ascii_digit b) (all_ascii_digits bs) h in
    let low = digit_range b both.0 in
    let p = 10 ^ length bs in
    let whole : value_after (0 * 10 + (b - 48)) bs ≡ (0 * 10 + (b - 48)) * p + value_after 0 bs = after_shift (0 * 10 + (b - 48)) bs in
    let up : 0 * 10 + (b - 48) ≤ (0 * 10 + (b - 48)) * p = le-mul_of_pos_right (0 * 10 + (b - 48)) (ten_positive (length bs)) in
    let is : b ≡ 48 = omega arith in
    let none : value_after 0 bs ≡ 0 = omega arith in
    and_from (eqb b 48) (all_zeros bs) (ap (λ k. eqb k 48) is) (zeros_from bs both.1 none)

-- ---- a fraction at a scale

pub units_of : (s n k m : ℕ) → n * 10 ^ s ≡ m * 10 ^ k → units_at s n k ≡ Some m
unfolding units_at
units_of s n k m e =
    ap (λ z. cond (eqb (z % 10 ^ k) 0) (Some (z / 10 ^ k)) None) e
    ∙ ap (λ r. cond (eqb r 0) (Some (m * 10 ^ k / 10 ^ k)) None) (mul-mod_left m (10 ^ k))
    ∙ ap Some (mul-div_cancel m (ten_positive k))

both_ways : (k s : ℕ) → 10 ^ (k - s) * 10 ^ s ≡ 10 ^ (s - k) * 10 ^ k
both_ways k s = sym (pow-add 10 (k - s) s) ∙ ap (λ e. 10 ^ e) (let same : k - s + s ≡ s - k + k = omega arith in same) ∙ pow-add 10 (s - k) k

units_whole : (s n k : ℕ) → units_at s (n * 10 ^ (k - s)) k ≡ Some (n * 10 ^ (s - k))
units_whole s n k = units_of s (n * 10 ^ (k - s)) k (n * 10 ^ (s - k))
    (mul_assoc n (10 ^ (k - s)) (10 ^ s) ∙ ap (λ z. n * z) (both_ways k s) ∙ sym (mul_assoc n (10 ^ (s - k)) (10 ^ k)))

units_none : (s n v k : ℕ) → s ≤ k → 0 < v → v < 10 ^ (k - s) → units_at s (n * 10 ^ (k - s) + v) k ≡ None
unfolding units_at
units_none s n v k l some below =
    let whole : 10 ^ (k - s) * 10 ^ s ≡ 10 ^ k = sym (pow-add 10 (k - s) s) ∙ ap (λ e. 10 ^ e) (let same : k - s + s ≡ k = omega arith in same) in
    let spread : (n * 10 ^ (k - s) + v) * 10 ^ s ≡ n * 10 ^ k + v * 10 ^ s =
    add-mul (n * 10 ^ (k - s)) v (10 ^ s) ∙ ap (λ z. z + v * 10 ^ s) (mul_assoc n (10 ^ (k - s)) (10 ^ s) ∙ ap (λ z. n * z) whole) in
    let within : v * 10 ^ s < 10 ^ (k - s) * 10 ^ s = mul-lt-mul_of_pos_right below (ten_positive s) in
    let rest : (n * 10 ^ k + v * 10 ^ s) % 10 ^ k ≡ v * 10 ^ s = mod-mul-add n (10 ^ k) (v * 10 ^ s) (omega arith) in
    let up : v ≤ v * 10 ^ s = le-mul_of_pos_right v (ten_positive s) in
    ap (λ z. cond (eqb (z % 10 ^ k) 0) (Some (z / 10 ^ k)) None) spread
    ∙ ap (λ r. cond (eqb r 0) (Some ((n * 10 ^ k + v * 10 ^ s) / 10 ^ k)) None) rest
    ∙ ap (λ b. cond b (Some ((n * 10 ^ k + v * 10 ^ s) / 10 ^ k)) None) (not_zero (v * 10 ^ s) (omega arith)) where
      not_zero : (n : ℕ) → 0 < n → eqb n 0 ≡ false
      not_zero n h = false_from_ne_true (eqb n 0) (λ e. let none : n ≡ 0 = eqb-true n 0 e in omega arith)

-- ---- a number from its digits

-- as code reads them
abbrev pub by_digits : ℕ → ℕ → Bool → List ℕ → List ℕ → Option Number
by_digits p s minus w f =
    cond (is_empty w && is_empty f) None
    (cond (all_zeros (drop s f)) (option_and_then (λ n. option_and_then (λ m. if_below p s minus (m * 10 ^ (s - length f))) (digits n (take s f))) (digits 0 w)) None)

joined : (none dw dk ln lm : Bool) (n m : ℕ) (g k : ℕ → Option Number) → k n ≡ option_and_then g (cond (dk && lm) (Some m) None) → (lm ≡ true → ln ≡ true) → (lm ≡ false → g m ≡ None)
    → cond (not none && (dw && dk)) (g m) None ≡ cond none None (option_and_then k (cond (dw && ln) (Some n) None))
joined true dw dk ln lm n m g k e a b = refl
joined false false dk ln lm n m g k e a b = refl
joined false true false true lm n m g k e a b = sym e
joined false true false false lm n m g k e a b = refl
joined false true true true true n m g k e a b = sym e
joined false true true true false n m g k e a b = b refl ∙ sym e
joined false true true false true n m g k e a b = cc (a refl)
joined false true true false false n m g k e a b = b refl

is_empty-append : (w f : List ℕ) → is_empty (w ++ f) ≡ (is_empty w && is_empty f)
is_empty-append [] f = refl
is_empty-append (b ∷ w) f = refl

chosen : (b : Bool) (v : ℕ) (h : ℕ → Option Number) → option_and_then h (cond b (Some v) None) ≡ cond b (h v) None
chosen true v h = refl
chosen false v h = refl

never : (b : Bool) → cond {A = Option Number} b None None ≡ None
never true = refl
never false = refl

module _ (p s : ℕ) (minus : Bool) (w f : List ℕ) (hp : p ≤ 38) where
  abbrev upper : ℕ
  upper = value_after (value_after 0 w) (take s f)

  abbrev found : ℕ → Option Number
  found v = option_and_then (if_below p s minus) (units_at s v (length f))

  value_is : value_after 0 (w ++ f) ≡ upper * 10 ^ (length f - s) + value_after 0 (drop s f)
  value_is =
      ap (λ (t : List ℕ). value_after 0 (w ++ t)) (sym (take-append-drop s f))
      ∙ value_after-append 0 w (take s f ++ drop s f)
      ∙ value_after-append (value_after 0 w) (take s f) (drop s f)
      ∙ after_shift upper (drop s f)
      ∙ ap (λ e. upper * 10 ^ e + value_after 0 (drop s f)) (length-drop s f)

  all_digits : all_ascii_digits (w ++ f) ≡ (all_ascii_digits w && (all_ascii_digits (take s f) && all_ascii_digits (drop s f)))
  all_digits =
      ap (λ (t : List ℕ). all_ascii_digits (w ++ t)) (sym (take-append-drop s f))
      ∙ digits-append w (take s f ++ drop s f)
      ∙ ap (λ t. all_ascii_digits w && t) (digits-append (take s f) (drop s f))

  parts_unfold : dec_parts p s minus w f ≡ cond (not (is_empty (w ++ f)) && all_ascii_digits (w ++ f)) (found (value_after 0 (w ++ f))) None
  unfolding dec_parts natural
  parts_unfold = chosen (not (is_empty (w ++ f)) && all_ascii_digits (w ++ f)) (value_after 0 (w ++ f)) found

  too_large : (n : ℕ) → 10 ^ 38 ≤ n → if_below p s minus n ≡ None
  too_large n h = ap (λ b. cond b (Some (at_scale (signed minus n) s)) None) (le-ltb n (10 ^ p) (omega (arith, ten_below p hp)))

  with_zeros : all_zeros (drop s f) ≡ true → dec_parts p s minus w f ≡ by_digits p s minus w f
  unfolding digits
  with_zeros z =
      let value : value_after 0 (w ++ f) ≡ upper * 10 ^ (length f - s) = value_is ∙ (let none = zeros_value (drop s f) z in omega arith) in
      let here : found (value_after 0 (w ++ f)) ≡ if_below p s minus (upper * 10 ^ (s - length f)) =
      ap found value ∙ ap (option_and_then (if_below p s minus)) (units_whole s upper (length f)) in
      let tail : (all_ascii_digits (take s f) && all_ascii_digits (drop s f)) ≡ all_ascii_digits (take s f) =
      ap (λ b. all_ascii_digits (take s f) && b) (zeros_digits (drop s f) z) ∙ and_true (all_ascii_digits (take s f)) in
      parts_unfold
      ∙ ap (λ x. cond (not (is_empty (w ++ f)) && all_ascii_digits (w ++ f)) x None) here
      ∙ ap (λ b. cond (not b && all_ascii_digits (w ++ f)) (if_below p s minus (upper * 10 ^ (s - length f))) None) (is_empty-append w f)
      ∙ ap (λ b. cond (not (is_empty w && is_empty f) && b) (if_below p s minus (upper * 10 ^ (s - length f))) None) (all_digits ∙ ap (λ b. all_ascii_digits w && b) tail)
      ∙ joined (is_empty w && is_empty f) (all_ascii_digits w) (all_ascii_digits (take s f)) (ltb (value_after 0 w) (10 ^ 38)) (ltb upper (10 ^ 38)) (value_after 0 w) upper
      (λ m. if_below p s minus (m * 10 ^ (s - length f)))
      (λ n. option_and_then (λ m. if_below p s minus (m * 10 ^ (s - length f))) (digits n (take s f)))
      refl below above
      ∙ ap (λ b. cond (is_empty w && is_empty f) None (cond b (option_and_then (λ n. option_and_then (λ m. if_below p s minus (m * 10 ^ (s - length f))) (digits n (take s f))) (digits 0 w)) None)) (sym z) where
        and_true : (b : Bool) → (b && true) ≡ b
        and_true true = refl
        and_true false = refl

        below : ltb upper (10 ^ 38) ≡ true → ltb (value_after 0 w) (10 ^ 38) ≡ true
        below h = lt-ltb (value_after 0 w) (10 ^ 38) (omega (arith, ltb-true upper (10 ^ 38) h, after_ge (value_after 0 w) (take s f)))

        above : ltb upper (10 ^ 38) ≡ false → if_below p s minus (upper * 10 ^ (s - length f)) ≡ None
        above h = too_large (upper * 10 ^ (s - length f)) (omega (arith, ltb-false upper (10 ^ 38) h, le-mul_of_pos_right upper (ten_positive (s - length f))))

  some : all_zeros (drop s f) ≡ false → all_ascii_digits (drop s f) ≡ true → 0 < value_after 0 (drop s f)
  some z past = go (value_after 0 (drop s f)) refl where
    go : (v : ℕ) → value_after 0 (drop s f) ≡ v → 0 < v
    go zero e = let yes : all_zeros (drop s f) ≡ true = zeros_from (drop s f) past e in cc
    go (suc v) e = omega arith

  without : all_zeros (drop s f) ≡ false → dec_parts p s minus w f ≡ by_digits p s minus w f
  without z =
      parts_unfold ∙ none (not (is_empty (w ++ f)) && all_ascii_digits (w ++ f)) refl
      ∙ sym (never (is_empty w && is_empty f))
      ∙ ap (λ b. cond (is_empty w && is_empty f) None (cond {A = Option Number} b (option_and_then (λ n. option_and_then (λ m. if_below p s minus (m * 10 ^ (s - length f))) (digits n (take s f))) (digits 0 w)) None)) (sym z) where
        none : (b : Bool) → (not (is_empty (w ++ f)) && all_ascii_digits (w ++ f)) ≡ b → cond b (found (value_after 0 (w ++ f))) None ≡ None
        none false e = refl
        none true e =
            let all = and_parts (not (is_empty (w ++ f))) (all_ascii_digits (w ++ f)) e in
            let parts = and_parts (all_ascii_digits w) (all_ascii_digits (take s f) && all_ascii_digits (drop s f)) (sym all_digits ∙ all.1) in
            let past : all_ascii_digits (drop s f) ≡ true = (and_parts (all_ascii_digits (take s f)) (all_ascii_digits (drop s f)) parts.1).1 in
            let low : value_after 0 (drop s f) < 10 ^ (length f - s) = subst (λ e. value_after 0 (drop s f) < 10 ^ e) (length-drop s f) (value_below (drop s f) past) in
            elim (cases_lt s (length f)) [
              | inl l ↦ ap found value_is ∙ ap (option_and_then (if_below p s minus)) (units_none s upper (value_after 0 (drop s f)) (length f) (omega arith) (some z past) low)
              | inr l ↦ let none : all_zeros (drop s f) ≡ true = ap all_zeros (drop_all s f l) in cc
            ]

pub parts_is : (p s : ℕ) (minus : Bool) (w f : List ℕ) → p ≤ 38 → dec_parts p s minus w f ≡ by_digits p s minus w f
parts_is p s minus w f h = elim (cases_Bool (all_zeros (drop s f))) [
  | inl z ↦ with_zeros p s minus w f h z
  | inr z ↦ without p s minus w f h z
]

-- ---- whole numbers

past_64 : (minus : Bool) (n : ℕ) → 10 ^ 38 ≤ n → if_fits (signed minus n) ≡ None
past_64 false n h = ap (λ b. cond b (Some (pos n)) None) (le-ltb n (2 ^ 63) (omega arith))
past_64 true zero h = absurd (omega arith)
past_64 true (suc n) h = ap (λ b. cond b (Some (negsuc n)) None) (le-ltb n (2 ^ 63) (omega arith))

int_by : (minus : Bool) (bs : List ℕ) → int_from minus (natural bs) ≡ cond (is_empty bs) None (int_from minus (digits 0 bs))
unfolding natural digits
int_by minus bs = go (is_empty bs) (all_ascii_digits bs) (ltb (value_after 0 bs) (10 ^ 38)) (λ h. past_64 minus (value_after 0 bs) (ltb-false (value_after 0 bs) (10 ^ 38) h)) where
  go : (none d l : Bool) → (l ≡ false → if_fits (signed minus (value_after 0 bs)) ≡ None)
      → int_from minus (cond (not none && d) (Some (value_after 0 bs)) None) ≡ cond none None (int_from minus (cond (d && l) (Some (value_after 0 bs)) None))
  go true d l h = refl
  go false false l h = refl
  go false true true h = refl
  go false true false h = h refl

pub int_is : (bs : List ℕ) → int_of bs ≡ cond (is_empty (unsigned bs)) None (int_from (negative bs) (digits 0 (unsigned bs)))
unfolding int_of
int_is bs = int_by (negative bs) (unsigned bs)
