use Rattle.std.proofs.Common.{◌≡◌, ◌≤◌, drop}
use Rattle.dfx_top.specs.CommandWords as spec
use Rattle.dfx_top.proofs.words.number_of.Given as goal

-- what is left answers as the whole
abbrev pub invariant-loop-byte : goal.invariant-loop-byte
invariant-loop-byte l = record {
  small : l.number ≤ 649;
  left : spec.in_range (spec.number_after l.number (drop l.byte-index l.digits)) ≡ spec.in_range (spec.number_after 0 l.digits);
}
