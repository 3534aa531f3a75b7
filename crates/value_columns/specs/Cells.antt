-- Meaning: the value that a look at a cell shows.
use Rattle.value_columns.specs.declared.cell.Cell.{Cell}
use Rattle.value_columns.specs.declared.cell.Cell.TheVariants as cell
use Rattle.dfx_value.specs.declared.value.Value.{Value}
use Rattle.dfx_value.specs.declared.value.Value.TheVariants as value

abbrev pub value_of : Cell → Value
value_of cell.Null = value.Null
value_of (cell.Bool b) = value.Bool b
value_of (cell.Int n) = value.Int n
value_of (cell.Dec d) = value.Dec d
value_of (cell.Text t) = value.Text t.now
