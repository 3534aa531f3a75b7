use Rattle.std.proofs.Common.{◌≡◌, [], ◌∷◌, length}
use Rattle.dfx_value.specs.declared.kind.Kind.TheVariants as kind
use Rattle.vector_bench.proofs.table.batch.Given as goal

abbrev pub invariant-loop-at : goal.invariant-loop-at
invariant-loop-at l = record {
  kinds : l.builder.kinds ≡ kind.Int ∷ kind.Int ∷ [];
  rows : length l.builder.rows ≡ l.at;
}
