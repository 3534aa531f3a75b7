-- What is printed reads back.
use Rattle.std.proofs.Common.{◌≡◌, ◌≢◌, refl, ℕ, zero, suc, ◌+◌, ◌-◌, ◌*◌, ◌/◌, ◌%◌, ◌^◌, ◌<◌, ◌≤◌, ℤ, pos, negsuc, neg_ℤ, unsigned_abs, Bool, true, false, ◌&&◌, not, cond, eqb, eqb-true, ltb, lt-ltb, leb, Option, Some, None, List, [], ◌∷◌, ◌++◌, length, arith, ap, sym, ◌∙◌, subst, lit<, lit≤}
use Rattle.std.specs.Prelude.{option_and_then, codes}
use Rattle.std.specs.Char.{is_ascii_digit}
use Rattle.std.specs.Str.{all_ascii_digits, is_utf8}
use Rattle.std.specs.Fmt.{decimal, signed_decimal}
use Rattle.std.proofs.Math.Nat.{mul_comm, div-le_self, pow-succ', div-lt_iff_lt-mul}
use Rattle.std.proofs.lemmas.Nat.{div-add-mod', mod_below}
use Rattle.std.proofs.lemmas.Bool.{and_parts, and_from, leb-true, le-leb, ltb-true, false_from_ne_true}
use Rattle.std.proofs.lemmas.Fmt.{decimal_by_steps_wide}
use Rattle.std.proofs.lemmas.List.{append-nil, length-append}
use Rattle.dfx_value.specs.Number.{Number}
use Rattle.dfx_value.specs.Decimal.{at_scale}
use Rattle.dfx_value.specs.Kinds.{fits_64, is_kind, is_of}
use Rattle.dfx_value.specs.Parse.{is_empty, negative, unsigned, signed, value_after, natural, if_fits, int_from, int_of, is_point, whole, fraction, units_at, if_below, dec_parts, dec_of, filled, text_of, parsed}
use Rattle.dfx_value.specs.Print.{fixed, minus, pointed, decimal_text, printed}
use Rattle.dfx_value.specs.declared.kind.Kind.{Kind}
use Rattle.dfx_value.specs.declared.kind.Kind.TheVariants as kind
use Rattle.dfx_value.specs.declared.value.Value.{Value}
use Rattle.dfx_value.specs.declared.value.Value.TheVariants as value
use Rattle.dfx_value.proofs.FieldLemmas.{value_after-append, after_shift, digits-append, units_of}
use Rattle.dfx_value.proofs.DecimalLemmas.{ten_below, ten_positive}
use Rattle.dfx_value.proofs.KindSteps.{precision_fits}

-- ---- digits

-- these digits, of which there is one at least, write the number
pub record Writes (n : ℕ) (ds : List ℕ) : Type 0 where
  digits : all_ascii_digits ds ≡ true
  value : value_after 0 ds ≡ n
  some : is_empty ds ≡ false

digit_range : (b : ℕ) → is_ascii_digit b ≡ true → (48 ≤ b) × (b ≤ 57)
digit_range b h = let both = and_parts (leb 48 b) (leb b 57) h in (leb-true 48 b both.0, leb-true b 57 both.1)

digit_is : (d : ℕ) → d < 10 → is_ascii_digit (48 + d) ≡ true
digit_is d h = and_from (leb 48 (48 + d)) (leb (48 + d) 57) (le-leb 48 (48 + d) (omega arith)) (le-leb (48 + d) 57 (omega arith))

one_digit : (n : ℕ) → n < 10 → Writes n ((48 + n) ∷ [])
one_digit n h = record { digits = and_from _ _ (digit_is n h) refl; value = omega arith; some = refl }

some_more : (ds : List ℕ) (b : ℕ) → is_empty (ds ++ b ∷ []) ≡ false
some_more [] b = refl
some_more (d ∷ ds) b = refl

more_digits : (n : ℕ) (ds : List ℕ) → 10 ≤ n → Writes (n / 10) ds → Writes n (ds ++ (48 + n % 10) ∷ [])
more_digits n ds h w =
    let low : n % 10 < 10 = mod_below n 10 (lit< tt) in
    let whole : n / 10 * 10 + n % 10 ≡ n = div-add-mod' n 10 in
    record {
      digits = digits-append ds ((48 + n % 10) ∷ []) ∙ and_from _ _ w.digits (and_from _ _ (digit_is (n % 10) low) refl);
      value = value_after-append 0 ds ((48 + n % 10) ∷ []) ∙ ap (λ k. k * 10 + (48 + n % 10 - 48)) w.value ∙ (let last : n / 10 * 10 + (48 + n % 10 - 48) ≡ n = omega arith in last);
      some = some_more ds (48 + n % 10);
    }

decimal_writes : (n : ℕ) → n < 10 ^ 64 → Writes n (decimal n)
decimal_writes = decimal_by_steps_wide Writes one_digit more_digits

natural_is : (n : ℕ) (ds : List ℕ) → Writes n ds → natural ds ≡ Some n
unfolding natural
natural_is n ds w =
    ap (λ b. cond (not b && all_ascii_digits ds) (Some (value_after 0 ds)) None) w.some
    ∙ ap (λ b. cond b (Some (value_after 0 ds)) None) w.digits
    ∙ ap Some w.value

not_sign : (b s : ℕ) → is_ascii_digit b ≡ true → s < 48 → eqb b s ≡ false
not_sign b s h l = false_from_ne_true (eqb b s) (λ e. let low = digit_range b h in let same : b ≡ s = eqb-true b s e in omega arith)

-- digits have no sign in front
plain : (ds rest : List ℕ) → all_ascii_digits ds ≡ true → is_empty ds ≡ false → (negative (ds ++ rest) ≡ false) × (unsigned (ds ++ rest) ≡ ds ++ rest)
plain [] rest h s = cc
plain (b ∷ ds) rest h s =
    let d = (and_parts (is_ascii_digit b) (all_ascii_digits ds) h).0 in (
      not_sign b 45 d (lit< tt),
      ap (λ t. cond t (ds ++ rest) (cond (eqb b 43) (ds ++ rest) (b ∷ (ds ++ rest)))) (not_sign b 45 d (lit< tt))
          ∙ ap (λ t. cond t (ds ++ rest) (b ∷ (ds ++ rest))) (not_sign b 43 d (lit< tt)),
    )

-- ---- whole numbers

within : (n : ℤ) → fits_64 n ≡ true → if_fits n ≡ Some n
within n h = ap (λ b. cond b (Some n) None) h

int_reads : (n : ℤ) → fits_64 n ≡ true → int_of (signed_decimal n) ≡ Some n
unfolding int_of
int_reads (pos n) h =
    let w = decimal_writes n (omega (arith, ltb-true n (2 ^ 63) h)) in
    let p = plain (decimal n) [] w.digits w.some in
    let u : unsigned (decimal n) ≡ decimal n = ap unsigned (sym (append-nil (decimal n))) ∙ p.1 ∙ append-nil (decimal n) in
    let m : negative (decimal n) ≡ false = ap negative (sym (append-nil (decimal n))) ∙ p.0 in
    ap (λ t. int_from (negative (decimal n)) (natural t)) u
    ∙ ap (λ o. int_from (negative (decimal n)) o) (natural_is n (decimal n) w)
    ∙ ap (λ b. int_from b (Some n)) m ∙ within (pos n) h
int_reads (negsuc n) h =
    let w = decimal_writes (suc n) (omega (arith, ltb-true n (2 ^ 63) h)) in
    ap (int_from true) (natural_is (suc n) (decimal (suc n)) w) ∙ within (negsuc n) h

int_some : (n : ℤ) → fits_64 n ≡ true → is_empty (signed_decimal n) ≡ false
int_some (pos n) h = (decimal_writes n (omega (arith, ltb-true n (2 ^ 63) h))).some
int_some (negsuc n) h = refl

when_some : (k : Kind) (bs : List ℕ) → is_empty bs ≡ false → parsed k bs ≡ filled k bs
when_some k bs h = ap (λ b. cond b (Some value.Null) (filled k bs)) h

-- ---- decimals

length-fixed : (s r : ℕ) → length (fixed s r) ≡ s
length-fixed zero r = refl
length-fixed (suc s) r = length-append (fixed s (r / 10)) ((48 + r % 10) ∷ []) ∙ (let e : length (fixed s (r / 10)) + 1 ≡ suc s = omega (arith, length-fixed s (r / 10)) in e)

fixed_digits : (s r : ℕ) → all_ascii_digits (fixed s r) ≡ true
fixed_digits zero r = refl
fixed_digits (suc s) r = digits-append (fixed s (r / 10)) ((48 + r % 10) ∷ []) ∙ and_from _ _ (fixed_digits s (r / 10)) (and_from _ _ (digit_is (r % 10) (mod_below r 10 (lit< tt))) refl)

fixed_value : (s r : ℕ) → r < 10 ^ s → value_after 0 (fixed s r) ≡ r
fixed_value zero r h = omega arith
fixed_value (suc s) r h =
    let whole : r / 10 * 10 + r % 10 ≡ r = div-add-mod' r 10 in
    let up : 10 ^ suc s ≡ 10 * 10 ^ s = pow-succ' 10 s in
    let front : value_after 0 (fixed s (r / 10)) ≡ r / 10 = fixed_value s (r / 10) (omega arith) in
    value_after-append 0 (fixed s (r / 10)) ((48 + r % 10) ∷ []) ∙ ap (λ k. k * 10 + (48 + r % 10 - 48)) front ∙ (let last : r / 10 * 10 + (48 + r % 10 - 48) ≡ r = omega arith in last)

not_point : (b : ℕ) → is_ascii_digit b ≡ true → is_point b ≡ false
not_point b h = not_sign b 46 h (lit< tt)

-- digits up to a point, or up to the end
halves : (ds : List ℕ) (s r : ℕ) → all_ascii_digits ds ≡ true → (whole (ds ++ pointed s r) ≡ ds) × (fraction (ds ++ pointed s r) ≡ fixed s r)
halves [] zero r h = (refl, refl)
halves [] (suc s) r h = (refl, refl)
halves (b ∷ ds) s r h =
    let both = and_parts (is_ascii_digit b) (all_ascii_digits ds) h in
    let more = halves ds s r both.1 in (
      ap (λ t. cond t [] (b ∷ whole (ds ++ pointed s r))) (not_point b both.0) ∙ ap (λ (t : List ℕ). b ∷ t) more.0,
      ap (λ t. cond t (ds ++ pointed s r) (fraction (ds ++ pointed s r))) (not_point b both.0) ∙ more.1,
    )

abbrev is_minus : ℤ → Bool
is_minus (pos n) = false
is_minus (negsuc n) = true

signed_back : (u : ℤ) → signed (is_minus u) (unsigned_abs u) ≡ u
signed_back (pos n) = refl
signed_back (negsuc n) = refl

signs : (u : ℤ) (ds rest : List ℕ) → all_ascii_digits ds ≡ true → is_empty ds ≡ false → (negative (minus u ++ ds ++ rest) ≡ is_minus u) × (unsigned (minus u ++ ds ++ rest) ≡ ds ++ rest)
signs (pos n) ds rest h s = plain ds rest h s
signs (negsuc n) ds rest h s = (refl, refl)

some_front : (ds rest : List ℕ) → is_empty ds ≡ false → is_empty (ds ++ rest) ≡ false
some_front [] rest h = cc
some_front (d ∷ ds) rest h = refl

-- m in two parts
parts_write : (m s : ℕ) (ds : List ℕ) → Writes (m / 10 ^ s) ds → Writes m (ds ++ fixed s (m % 10 ^ s))
parts_write m s ds w =
    let rest = fixed s (m % 10 ^ s) in
    let low : m % 10 ^ s < 10 ^ s = mod_below m (10 ^ s) (ten_positive s) in
    let whole : m / 10 ^ s * 10 ^ s + m % 10 ^ s ≡ m = div-add-mod' m (10 ^ s) in
    record {
      digits = digits-append ds rest ∙ and_from _ _ w.digits (fixed_digits s (m % 10 ^ s));
      value = value_after-append 0 ds rest ∙ ap (λ k. value_after k rest) w.value ∙ after_shift (m / 10 ^ s) rest
          ∙ ap (λ k. m / 10 ^ s * 10 ^ k + value_after 0 rest) (length-fixed s (m % 10 ^ s))
          ∙ ap (λ v. m / 10 ^ s * 10 ^ s + v) (fixed_value s (m % 10 ^ s) low) ∙ whole;
      some = some_front ds rest w.some;
    }

dec_at : (p : ℕ) (d : Number) → p ≤ 38 → unsigned_abs d.unscaled < 10 ^ p → dec_of p d.scale (decimal_text d) ≡ Some d
unfolding dec_of dec_parts decimal_text
dec_at p d hp below =
    let m = unsigned_abs d.unscaled in
    let s = d.scale in
    let ds = decimal (m / 10 ^ s) in
    let rest = fixed s (m % 10 ^ s) in
    let text = minus d.unscaled ++ ds ++ pointed s (m % 10 ^ s) in
    let w : Writes (m / 10 ^ s) ds = decimal_writes (m / 10 ^ s) (omega (arith, div-le_self m (10 ^ s), ten_below p hp)) in
    let sg = signs d.unscaled ds (pointed s (m % 10 ^ s)) w.digits w.some in
    let h = halves ds s (m % 10 ^ s) w.digits in
    ap (λ b. dec_parts p s b (whole (unsigned text)) (fraction (unsigned text))) sg.0
    ∙ ap (λ (t : List ℕ). dec_parts p s (is_minus d.unscaled) (whole t) (fraction t)) sg.1
    ∙ ap (λ (t : List ℕ). dec_parts p s (is_minus d.unscaled) t (fraction (ds ++ pointed s (m % 10 ^ s)))) h.0
    ∙ ap (λ (t : List ℕ). dec_parts p s (is_minus d.unscaled) ds t) h.1
    ∙ ap (λ o. option_and_then (λ n. option_and_then (if_below p s (is_minus d.unscaled)) (units_at s n (length rest))) o) (natural_is m (ds ++ rest) (parts_write m s ds w))
    ∙ ap (λ k. option_and_then (if_below p s (is_minus d.unscaled)) (units_at s m k)) (length-fixed s (m % 10 ^ s))
    ∙ ap (λ o. option_and_then (if_below p s (is_minus d.unscaled)) o) (units_of s m s m refl)
    ∙ ap (λ b. cond b (Some (at_scale (signed (is_minus d.unscaled) m) s)) None) (lt-ltb m (10 ^ p) below)
    ∙ ap (λ u. Some (at_scale u s)) (signed_back d.unscaled)

dec_some : (d : Number) (p : ℕ) → p ≤ 38 → unsigned_abs d.unscaled < 10 ^ p → is_empty (decimal_text d) ≡ false
unfolding decimal_text
dec_some d p hp below =
    let m = unsigned_abs d.unscaled in
    let w : Writes (m / 10 ^ d.scale) (decimal (m / 10 ^ d.scale)) = decimal_writes (m / 10 ^ d.scale) (omega (arith, div-le_self m (10 ^ d.scale), ten_below p hp)) in
    go d.unscaled (decimal (m / 10 ^ d.scale)) (pointed d.scale (m % 10 ^ d.scale)) w.some where
      go : (u : ℤ) (ds rest : List ℕ) → is_empty ds ≡ false → is_empty (minus u ++ ds ++ rest) ≡ false
      go (pos n) ds rest h = some_front ds rest h
      go (negsuc n) ds rest h = refl

-- ---- values

dec_reads : (p s : ℕ) (d : Number) → is_kind (kind.Dec p s) ≡ true → is_of (kind.Dec p s) (value.Dec d) ≡ true → parsed (kind.Dec p s) (decimal_text d) ≡ Some (value.Dec d)
dec_reads p s d k h =
    let both = and_parts (eqb d.scale s) (ltb (unsigned_abs d.unscaled) (10 ^ p)) h in
    let below : unsigned_abs d.unscaled < 10 ^ p = ltb-true (unsigned_abs d.unscaled) (10 ^ p) both.1 in
    let hp : p ≤ 38 = precision_fits p s k in
    when_some (kind.Dec p s) (decimal_text d) (dec_some d p hp below)
    ∙ ap (λ o. option_and_then (λ n. Some (value.Dec n)) o) (subst (λ t. dec_of p t (decimal_text d) ≡ Some d) (eqb-true d.scale s both.0) (dec_at p d hp below))

text_reads : (t : List ℕ) → is_utf8 t ≡ true → value.Text t ≢ value.Text [] → parsed kind.Text t ≡ Some (value.Text t)
text_reads [] h n = absurd (n refl)
text_reads (b ∷ t) h n = ap (λ u. cond u (Some (value.Text (b ∷ t))) None) h

pub reads_back : (k : Kind) (v : Value) → is_kind k ≡ true → is_of k v ≡ true → v ≢ value.Text [] → parsed k (printed v) ≡ Some v
reads_back k value.Null r h n = refl
reads_back kind.Bool (value.Bool true) r h n = refl
reads_back kind.Bool (value.Bool false) r h n = refl
reads_back kind.Int (value.Int i) r h n = when_some kind.Int (signed_decimal i) (int_some i h) ∙ ap (λ o. option_and_then (λ m. Some (value.Int m)) o) (int_reads i h)
reads_back (kind.Dec p s) (value.Dec d) r h n = dec_reads p s d r h
reads_back kind.Text (value.Text t) r h n = text_reads t h n
reads_back _ _ r h n = cc
