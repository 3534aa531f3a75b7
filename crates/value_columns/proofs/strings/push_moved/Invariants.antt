use Rattle.std.proofs.Common.{◌≡◌, ◌+◌, ◌-◌, ◌≤◌, ◌++◌, length, take, vec_len, vec_capacity}
use Rattle.value_columns.specs.Pieces.{moved}
use Rattle.value_columns.proofs.strings.push_moved.Given as goal

abbrev pub invariant-loop-end : goal.invariant-loop-end
invariant-loop-end l = record {
  items : l.ends.items ≡ l.fn.ends.items ++ moved l.start l.base (take l.end-index l.others);
  room : vec_len l.ends + (length l.others - l.end-index) ≤ vec_capacity l.ends;
}
