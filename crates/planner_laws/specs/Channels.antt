-- Meaning: the channel of a row, by a hash of its key columns.
use Rattle.std.specs.Prelude.{ℕ, ◌%◌, List}
use Rattle.plan_props.specs.Meets.{Hashing, cells_at}
use Rattle.logical_plan.specs.Items.{Cells}

-- of n channels
abbrev pub channel_by : Hashing → List ℕ → ℕ → Cells → ℕ
channel_by h columns n row = h (cells_at columns row) % n
