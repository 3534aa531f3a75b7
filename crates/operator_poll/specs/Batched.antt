-- Words: what a queue keeps of its batches.
use Rattle.std.specs.Prelude.{ℕ, ◌<◌, ◌≡◌, List, length}
use Rattle.dfx_value.specs.KindedRows.{KindedRows}
use Rattle.dfx_value.specs.declared.kind.Kind.{Kind}

-- a batch of these kinds with a row
pub record IsPart (kinds : List Kind) (batch : KindedRows) : Type 0 where
  pub alike : batch.kinds ≡ kinds
  pub filled : 0 < length batch.rows
