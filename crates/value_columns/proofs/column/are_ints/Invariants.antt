use Rattle.std.proofs.Common.{◌≡◌, true, map, take}
use Rattle.dfx_value.specs.declared.kind.Kind.TheVariants as kind
use Rattle.dfx_value.specs.declared.value.Value.TheVariants as value
use Rattle.value_columns.specs.Columns.{all_of}
use Rattle.value_columns.proofs.column.are_ints.Given as goal

abbrev pub invariant-loop-number : goal.invariant-loop-number
invariant-loop-number l = all_of kind.Int (map value.Int (take l.number-index l.numbers)) ≡ true
