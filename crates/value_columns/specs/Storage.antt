-- Words: what the storage of a column holds.
use Rattle.std.specs.Prelude.{ℕ, ℤ, List, map}
use Rattle.dfx_value.specs.declared.kind.Kind.{Kind}
use Rattle.dfx_value.specs.declared.kind.Kind.TheVariants as kind
use Rattle.dfx_value.specs.declared.value.Value.{Value}
use Rattle.dfx_value.specs.declared.value.Value.TheVariants as value
use Rattle.value_columns.specs.Columns.{or_null}
use Rattle.value_columns.specs.declared.cells.Cells.{Cells}
use Rattle.value_columns.specs.declared.cells.Cells.TheVariants as cells

-- an unscaled number as a decimal
abbrev pub at_scale : ℕ → ℤ → Value
at_scale s n = value.Dec (record { unscaled = n; scale = s })

abbrev pub kind_of : Cells → Kind
kind_of (cells.Truths xs) = kind.Bool
kind_of (cells.Ints xs) = kind.Int
kind_of (cells.Decimals p s xs) = kind.Dec p s
kind_of (cells.Texts xs) = kind.Text

abbrev pub values_of : Cells → List Value
values_of (cells.Truths xs) = map (or_null value.Bool) xs
values_of (cells.Ints xs) = map (or_null value.Int) xs
values_of (cells.Decimals p s xs) = map (or_null (at_scale s)) xs
values_of (cells.Texts xs) = map (or_null value.Text) xs
