-- The nearest multiple of a number.
use Rattle.std.proofs.Common.{◌≡◌, refl, ℕ, zero, suc, ◌+◌, ◌-◌, ◌*◌, ◌/◌, ◌%◌, ◌<◌, ◌≤◌, ℤ, pos, negsuc, neg_ℤ, unsigned_abs, inl, inr, arith, ap, sym, ◌∙◌, subst}
use Rattle.std.proofs.Math.Nat.{mul_comm, mul-le-mul_left, mul_left_comm, mul-add}
use Rattle.std.proofs.lemmas.Nat.{div-add-mod', mod_below}
use Rattle.std.proofs.lemmas.Bool.{cases_lt}
use Rattle.dfx_value.specs.Decimal.{nearest, half_away, signed_like}
use Rattle.dfx_value.proofs.DecimalLemmas.{nearest_up, nearest_down, abs_signed_like}
use Rattle.value_laws.specs.Rounding.{IsNearest, distance}

below : (n d : ℕ) → 0 < d → n % d < d - n % d → IsNearest n d (n / d)
below n d h down =
    let whole : n / d * d + n % d ≡ n = div-add-mod' n d in
    let turned : d * (n / d) ≡ n / d * d = mul_comm d (n / d) in
    (omega arith, omega arith)

above : (n d : ℕ) → 0 < d → d - n % d ≤ n % d → IsNearest n d (n / d + 1)
above n d h up =
    let whole : n / d * d + n % d ≡ n = div-add-mod' n d in
    let low : n % d < d = mod_below n d h in
    let turned : d * (n / d + 1) ≡ n / d * d + d = mul-add d (n / d) 1 ∙ (let one : d * 1 ≡ d = omega arith in ap (λ k. d * (n / d) + k) one) ∙ ap (λ k. k + d) (mul_comm d (n / d)) in
    (omega arith, omega arith)

pub is_nearest : (n d : ℕ) → 0 < d → IsNearest n d (nearest n d)
is_nearest n d h = elim (cases_lt (n % d) (d - n % d)) [
  | inl down ↦ subst (IsNearest n d) (sym (nearest_down n d h down)) (below n d h down)
  | inr up ↦ subst (IsNearest n d) (sym (nearest_up n d h up)) (above n d h up)
]

less : (d r q : ℕ) → r < q → d * r + d ≤ d * q
less d r q h =
    let step : d * suc r ≤ d * q = mul-le-mul_left d (omega arith) in
    let spread : d * (r + 1) ≡ d * r + d * 1 = mul-add d r 1 in
    let same : d * suc r ≡ d * (r + 1) = ap (λ k. d * k) (let e : suc r ≡ r + 1 = omega arith in e) in
    omega arith

pub none_nearer : (n d q r : ℕ) → IsNearest n d q → distance n (d * q) ≤ distance n (d * r)
none_nearer n d q r h = elim (cases_lt r q) [
  | inl lower ↦ let gap = less d r q lower in let a : 2 * (d * q) ≤ 2 * n + d = h.0 in let b : 2 * n < 2 * (d * q) + d = h.1 in omega arith
  | inr upper ↦ elim (cases_lt q r) [
    | inl higher ↦ let gap = less d q r higher in let a : 2 * (d * q) ≤ 2 * n + d = h.0 in let b : 2 * n < 2 * (d * q) + d = h.1 in omega arith
    | inr same ↦ let e : q ≡ r = omega arith in subst (λ k. distance n (d * q) ≤ distance n (d * k)) e (omega arith)
  ]
]

pub half_nearest : (z : ℤ) (d : ℕ) → 0 < d → IsNearest (unsigned_abs z) d (unsigned_abs (half_away z d))
unfolding half_away
half_nearest z d h = subst (IsNearest (unsigned_abs z) d) (sym (abs_signed_like z (nearest (unsigned_abs z) d))) (is_nearest (unsigned_abs z) d h)

pub half_signed : (z : ℤ) (d : ℕ) → half_away z d ≡ signed_like z (unsigned_abs (half_away z d))
unfolding half_away
half_signed z d = ap (signed_like z) (sym (abs_signed_like z (nearest (unsigned_abs z) d)))
