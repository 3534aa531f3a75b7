use Rattle.std.proofs.Common.{ℕ, ◌*◌, ◌+◌, ◌<◌, ◌^◌, ◌≡◌, ◌∙◌, get_or, arith, sym, true, subst}
use Rattle.std.specs.Char.{is_ascii_digit}
use Rattle.csv_columns.proofs.NumberSteps.{digit_more, short_below, digit_low}
use Rattle.dfx_value.proofs.ParseLemmas.{digits_more_at}
use Rattle.csv_columns.proofs.numbers.short_digits.Goals as goal

pub overflow_mul-number : goal.overflow_mul-number
overflow_mul-number c =
    let low = short_below c.loop-byte.number (c.args.count + c.loop-byte.byte-index) c.loop-byte.invariant.below (omega arith) in
    omega arith

pub overflow_add-number : goal.overflow_add-number
overflow_add-number c =
    let low = short_below c.loop-byte.number (c.args.count + c.loop-byte.byte-index) c.loop-byte.invariant.below (omega arith) in
    let is : is_ascii_digit (get_or c.args.bytes.now c.loop-byte.byte-index 0) ≡ true = (cc) in
    let digit = digit_low (get_or c.args.bytes.now c.loop-byte.byte-index 0) is in
    omega arith

pub loop-byte-preserved : goal.loop-byte-preserved
loop-byte-preserved c =
    let is : is_ascii_digit (get_or c.args.bytes.now c.loop-byte.byte-index 0) ≡ true = (cc) in
    let digit = digit_low (get_or c.args.bytes.now c.loop-byte.byte-index 0) is in
    record {
      left = rw c.from.ensures (sym (digits_more_at c.loop-byte.number c.loop-byte.byte-index c.args.bytes.now c.loop-byte-test.true is) ∙ c.loop-byte.invariant.left);
      below = subst (λ (k : ℕ). c.loop-byte.number * 10 + c.from.result < 10 ^ k) (let same : c.args.count + c.loop-byte.byte-index + 1 ≡ c.args.count + (c.loop-byte.byte-index + 1) = omega arith in same) (digit_more c.loop-byte.number c.from.result (c.args.count + c.loop-byte.byte-index) c.loop-byte.invariant.below (omega arith));
    }
