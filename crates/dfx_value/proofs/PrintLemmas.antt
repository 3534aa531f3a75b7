-- What is printed is UTF-8.
use Rattle.std.proofs.Common.{◌≡◌, refl, ℕ, zero, suc, ◌+◌, ◌/◌, ◌%◌, ◌^◌, ◌<◌, ℤ, pos, negsuc, Bool, true, false, cond, eqb, ltb, List, [], ◌∷◌, ◌++◌, arith, unsigned_abs, lit<}
use Rattle.std.specs.Fmt.{digits, digits_onto, digit_glyph, decimal, signed_decimal}
use Rattle.std.specs.Str.{IsAscii, is_utf8}
use Rattle.std.proofs.lemmas.Nat.{mod_below}
use Rattle.std.proofs.lemmas.Str.{IsAscii-append, IsUtf8-from_ascii, is_utf8-from_IsUtf8}
use Rattle.std.proofs.lemmas.Str.Ascii.{IsAscii-nil, IsAscii-cons}
use Rattle.dfx_value.specs.Number.{Number}
use Rattle.dfx_value.specs.Kinds.{is_of}
use Rattle.dfx_value.specs.Print.{fixed, minus, pointed, decimal_text, truth_text, printed}
use Rattle.dfx_value.specs.declared.kind.Kind.{Kind}
use Rattle.dfx_value.specs.declared.kind.Kind.TheVariants as kind
use Rattle.dfx_value.specs.declared.value.Value.{Value}
use Rattle.dfx_value.specs.declared.value.Value.TheVariants as value

glyph_low : (d : ℕ) → d < 10 → digit_glyph false d < 128
glyph_low d h = go (ltb d 10) where
  go : (b : Bool) → cond b (48 + d) (87 + d) < 128
  go true = omega arith
  go false = omega arith

either_ascii : (b : Bool) (s t : List ℕ) → IsAscii s → IsAscii t → IsAscii (cond b s t)
either_ascii true s t h i = h
either_ascii false s t h i = i

onto_ascii : (k n : ℕ) (acc : List ℕ) → IsAscii acc → IsAscii (digits_onto k 10 false n acc)
onto_ascii zero n acc h = h
onto_ascii (suc k) n acc h =
    let more : IsAscii (digit_glyph false (n % 10) ∷ acc) = IsAscii-cons (digit_glyph false (n % 10)) acc (glyph_low (n % 10) (mod_below n 10 (lit< tt))) h in
    either_ascii (eqb (n / 10) 0) (digit_glyph false (n % 10) ∷ acc) (digits_onto k 10 false (n / 10) (digit_glyph false (n % 10) ∷ acc)) more (onto_ascii k (n / 10) (digit_glyph false (n % 10) ∷ acc) more)

decimal_ascii : (n : ℕ) → IsAscii (decimal n)
unfolding digits
decimal_ascii n = onto_ascii 64 n [] IsAscii-nil

fixed_ascii : (k n : ℕ) → IsAscii (fixed k n)
fixed_ascii zero n = IsAscii-nil
fixed_ascii (suc k) n =
    IsAscii-append (fixed k (n / 10)) ((48 + n % 10) ∷ []) (fixed_ascii k (n / 10))
    (IsAscii-cons (48 + n % 10) [] (let low : n % 10 < 10 = mod_below n 10 (lit< tt) in omega arith) IsAscii-nil)

minus_ascii : (z : ℤ) → IsAscii (minus z)
minus_ascii (pos n) = IsAscii-nil
minus_ascii (negsuc n) = IsAscii-cons 45 [] (lit< tt) IsAscii-nil

pointed_ascii : (k n : ℕ) → IsAscii (pointed k n)
pointed_ascii zero n = IsAscii-nil
pointed_ascii (suc k) n = IsAscii-cons 46 (fixed (suc k) n) (lit< tt) (fixed_ascii (suc k) n)

signed_ascii : (z : ℤ) → IsAscii (signed_decimal z)
signed_ascii (pos n) = decimal_ascii n
signed_ascii (negsuc n) = IsAscii-cons 45 (decimal (suc n)) (lit< tt) (decimal_ascii (suc n))

number_ascii : (d : Number) → IsAscii (decimal_text d)
unfolding decimal_text
number_ascii d =
    let m = unsigned_abs d.unscaled in
    IsAscii-append (minus d.unscaled ++ decimal (m / 10 ^ d.scale)) (pointed d.scale (m % 10 ^ d.scale))
    (IsAscii-append (minus d.unscaled) (decimal (m / 10 ^ d.scale)) (minus_ascii d.unscaled) (decimal_ascii (m / 10 ^ d.scale)))
    (pointed_ascii d.scale (m % 10 ^ d.scale))

truth_ascii : (b : Bool) → IsAscii (truth_text b)
truth_ascii true = IsAscii-cons 116 (114 ∷ 117 ∷ 101 ∷ []) (lit< tt) (IsAscii-cons 114 (117 ∷ 101 ∷ []) (lit< tt) (IsAscii-cons 117 (101 ∷ []) (lit< tt) (IsAscii-cons 101 [] (lit< tt) IsAscii-nil)))
truth_ascii false = IsAscii-cons 102 (97 ∷ 108 ∷ 115 ∷ 101 ∷ []) (lit< tt) (IsAscii-cons 97 (108 ∷ 115 ∷ 101 ∷ []) (lit< tt) (IsAscii-cons 108 (115 ∷ 101 ∷ []) (lit< tt) (IsAscii-cons 115 (101 ∷ []) (lit< tt) (IsAscii-cons 101 [] (lit< tt) IsAscii-nil))))

ascii_utf8 : (t : List ℕ) → IsAscii t → is_utf8 t ≡ true
ascii_utf8 t h = is_utf8-from_IsUtf8 t (IsUtf8-from_ascii t h)

-- what is printed of a value of a kind
pub printed_utf8 : (k : Kind) (v : Value) → is_of k v ≡ true → is_utf8 (printed v) ≡ true
printed_utf8 k value.Null h = ascii_utf8 [] IsAscii-nil
printed_utf8 k (value.Bool b) h = ascii_utf8 (truth_text b) (truth_ascii b)
printed_utf8 k (value.Int n) h = ascii_utf8 (signed_decimal n) (signed_ascii n)
printed_utf8 k (value.Dec d) h = ascii_utf8 (decimal_text d) (number_ascii d)
printed_utf8 kind.Text (value.Text t) h = h
printed_utf8 kind.Bool (value.Text t) h = cc
printed_utf8 kind.Int (value.Text t) h = cc
printed_utf8 (kind.Dec p s) (value.Text t) h = cc
