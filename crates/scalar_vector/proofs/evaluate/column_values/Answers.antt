use Rattle.std.proofs.Common.{◌≡◌, true, subst, sym, arith}
use Rattle.dfx_value.specs.KindedRows.{all_are}
use Rattle.scalar_vector.specs.Vectors.{places_of}
use Rattle.scalar_vector.proofs.Batches.{no_column}
use Rattle.scalar_vector.proofs.evaluate.column_values.Goals as goal

pub returns-else-column-kinds : goal.returns-else-column-kinds
returns-else-column-kinds c = rw c.len.ensures (no_column c.args.kinds.now c.args.batch.now.rows c.args.column (places_of c.args.places)
    (subst (λ ks. all_are ks c.args.batch.now.rows ≡ true) (sym c.requires) c.rows.ensures.kinded) (omega arith))
