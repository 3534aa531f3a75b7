use Rattle.std.proofs.Common.{arith, rules}
use Rattle.std.proofs.lemmas.Int.{ints, to_z-of_z}
use Rattle.value_columns.proofs.ColumnLemmas.{ints_more}
use Rattle.value_columns.proofs.column.are_ints.Goals as goal

pub loop-number-preserved : goal.loop-number-preserved
loop-number-preserved c = search (rules, ints, to_z-of_z, ints_more)
