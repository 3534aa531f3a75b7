use Rattle.std.proofs.Common.{◌≡◌, ◌+◌, ◌^◌, ◌<◌, drop}
use Rattle.dfx_value.specs.Digits.{digits}
use Rattle.csv_columns.proofs.numbers.short_digits.Given as goal

-- the digits that are left, after the number so far
abbrev pub invariant-loop-byte : goal.invariant-loop-byte
invariant-loop-byte l = record {
  left : digits l.number (drop l.byte-index l.bytes) ≡ digits l.before l.bytes;
  below : l.number < 10 ^ (l.count + l.byte-index);
}
