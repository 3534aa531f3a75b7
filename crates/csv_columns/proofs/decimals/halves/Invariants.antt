use Rattle.std.proofs.Common.{◌≡◌, ◌++◌, take, drop}
use Rattle.dfx_value.specs.Parse as spec
use Rattle.csv_columns.proofs.decimals.halves.Given as goal

-- no point so far
abbrev pub invariant-loop-place : goal.invariant-loop-place
invariant-loop-place l = record {
  whole : take l.place l.bytes ++ spec.whole (drop l.place l.bytes) ≡ spec.whole l.bytes;
  fraction : spec.fraction (drop l.place l.bytes) ≡ spec.fraction l.bytes;
}
