use Rattle.std.proofs.Common.{◌+◌, ◌-◌, ◌*◌, ◌^◌, ◌<◌, ◌≡◌, ◌&&◌, ℕ, false, true, Some, length, min, take, drop, arith, ap, sym, ◌∙◌, subst}
use Rattle.std.proofs.lemmas.List.{length-take}
use Rattle.dfx_value.specs.Decimal.{at_scale}
use Rattle.dfx_value.specs.Digits.{digits, all_zeros}
use Rattle.dfx_value.specs.Parse as spec
use Rattle.csv_columns.proofs.NumberSteps.{raised_fits, short_below, decimal_is, decimal_fits}
use Rattle.csv_columns.proofs.decimals.short_decimal.Goals as goal

pub raised-magnitude-requires-clause-number : goal.raised-magnitude-requires-clause-number
raised-magnitude-requires-clause-number c =
    let few : length c.cut.result.0.now ≡ min c.args.scale (length c.args.fraction.now) = ap length c.cut.ensures.front ∙ length-take c.args.scale c.args.fraction.now in
    let below : c.in_ok-number.number < 10 ^ (length c.args.whole.now + min c.args.scale (length c.args.fraction.now)) =
    subst (λ (k : ℕ). c.in_ok-number.number < 10 ^ (length c.args.whole.now + k)) few c.in_ok-number.ensures.below in
    rw c.missing_digits-missing.ensures.value (raised_fits c.in_ok-number.number (length c.args.whole.now) (length c.args.fraction.now) c.args.scale below)

pub decimal_of-requires-clause-magnitude : goal.decimal_of-requires-clause-magnitude
decimal_of-requires-clause-magnitude c = short_below c.raised-magnitude.result (length c.args.whole.now + c.args.scale) c.raised-magnitude.ensures.below (omega arith)

pub returns-clause-value : goal.returns-clause-value
returns-clause-value c =
    let magnitude : c.raised-magnitude.result ≡ c.in_ok-number.number * 10 ^ (c.args.scale - length c.args.fraction.now) =
    c.raised-magnitude.ensures.value ∙ ap (λ (k : ℕ). c.in_ok-number.number * 10 ^ k) c.missing_digits-missing.ensures.value in
    let low : c.in_ok-number.number * 10 ^ (c.args.scale - length c.args.fraction.now) < 10 ^ (length c.args.whole.now + c.args.scale) =
    subst (λ (m : ℕ). m < 10 ^ (length c.args.whole.now + c.args.scale)) magnitude c.raised-magnitude.ensures.below in
    let some : (spec.is_empty c.args.whole.now && spec.is_empty c.args.fraction.now) ≡ false = sym c.have_no_digit.ensures ∙ c.if-have_no_digit.false in
    let zeros : all_zeros (drop c.args.scale c.args.fraction.now) ≡ true = ap all_zeros (sym c.cut.ensures.rest) ∙ sym c.all_zeros.ensures ∙ c.if-not-all_zeros.false in
    let kept : Some c.in_ok-number.number ≡ digits c.in_ok-before.before (take c.args.scale c.args.fraction.now) = c.in_ok-number.ensures.value ∙ ap (digits c.in_ok-before.before) c.cut.ensures.front in
    ap Some (c.decimal_of.ensures ∙ ap (λ (m : ℕ). at_scale (spec.signed c.args.negative m) c.args.scale) magnitude)
    ∙ sym (decimal_is c.args.precision c.args.scale c.args.negative c.args.whole.now c.args.fraction.now c.in_ok-before.before c.in_ok-number.number
    c.requires.precision some zeros c.in_ok-before.ensures.value kept low c.requires.fits)

pub returns-clause-fits : goal.returns-clause-fits
returns-clause-fits c =
    rw c.decimal_of.ensures (decimal_fits c.args.precision c.args.scale c.args.negative c.raised-magnitude.result (length c.args.whole.now + c.args.scale) c.raised-magnitude.ensures.below c.requires.fits)
