use Rattle.std.proofs.Common.{◌+◌, length, arith}
use Rattle.csv_columns.proofs.NumberSteps.{short_below}
use Rattle.csv_columns.proofs.numbers.short_whole.Goals as goal

pub signed-requires : goal.signed-requires
signed-requires c = short_below c.in-Some.magnitude (0 + length c.args.bytes.now) c.in-Some.ensures.below (omega arith)
