use Rattle.std.proofs.Common.{◌≡◌}
use Rattle.dfx_value.proofs.KindSteps.{fits_64_of}
use Rattle.value_columns.proofs.column.is_int.Goals as goal

pub returns : goal.returns
returns c = fits_64_of c.args.number c.ranges.number
