use Rattle.std.proofs.Common.{◌≡◌, ◌++◌, take, drop}
use Rattle.dfx_value.specs.Parse as parse
use Rattle.typed_exprs.proofs.literals.halves.Given as goal

-- no point so far
abbrev pub invariant-loop-place : goal.invariant-loop-place
invariant-loop-place l = record {
  whole : take l.place l.text ++ parse.whole (drop l.place l.text) ≡ parse.whole l.text;
  fraction : parse.fraction (drop l.place l.text) ≡ parse.fraction l.text;
}
