-- Meaning: the rows that stand at a place where a batch may stand.
use Rattle.std.specs.Prelude.{Option, Some, None, List, []}
use Rattle.dfx_value.specs.Items.{Cells}
use Rattle.dfx_value.specs.KindedRows.{KindedRows}

abbrev pub rows_of : Option KindedRows → List Cells
rows_of None = []
rows_of (Some batch) = batch.rows
