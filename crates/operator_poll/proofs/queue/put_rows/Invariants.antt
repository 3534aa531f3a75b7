use Rattle.std.proofs.Common.{◌≡◌, ◌++◌, ◌<◌, ◌^◌, ◌+◌, length, drop, take, All}
use Rattle.operator_poll.specs.Waiting.{all_rows}
use Rattle.operator_poll.specs.Batched.{IsPart}
use Rattle.operator_poll.proofs.queue.put_rows.Given as goal

abbrev pub invariant-loop-missing : goal.invariant-loop-missing
invariant-loop-missing l = record {
  kinds : l.builder.kinds ≡ l.initial.builder.kinds;
  rows : l.builder.rows ++ take l.missing (all_rows l.batches.items) ≡ l.initial.builder.rows ++ take l.initial.missing (all_rows l.initial.batches.items);
  rest : drop l.missing (all_rows l.batches.items) ≡ drop l.initial.missing (all_rows l.initial.batches.items);
  parts : All (IsPart l.initial.builder.kinds) l.batches.items;
  room : length l.builder.rows + l.missing < 2 ^ 32;
}

abbrev pub decreases-loop-missing : goal.decreases-loop-missing
decreases-loop-missing l = l.missing
