use Rattle.std.proofs.Common.{rules}
use Rattle.dfx_value.specs.Order.{value_cmp}
use Rattle.value_columns.proofs.cell.compare.Goals as goal
use Rattle.value_columns.proofs.cell.compare.Goals.{in_default-via-in-Bool+in_default, in_default-via-in-Int+in_default, in_default-via-in-Dec+in_default, in_default-via-in-Text+in_default, in_default-via-in_default}

pub returns-in_default : goal.returns-in_default
unfolding value_cmp
returns-in_default c = elim c.in_default.branch [ in_default-via-in-Bool+in_default w ↦ search rules | in_default-via-in-Int+in_default w ↦ search rules | in_default-via-in-Dec+in_default w ↦ search rules | in_default-via-in-Text+in_default w ↦ search rules | in_default-via-in_default w ↦ search rules ]
