use Rattle.std.proofs.Common.{ℕ, ◌+◌, ◌<◌, ◌≡◌, length, get_or, take}
use Rattle.task_shape.specs.Numbers.{count}
use Rattle.run_frame.proofs.start.count_targets.Given as goal

abbrev pub invariant-loop-target : goal.invariant-loop-target
invariant-loop-target l = record {
  long : length l.senders.items ≡ length l.initial.senders.items;
  counts : (c : ℕ) → c < length l.initial.senders.items → get_or l.senders.items c 0 ≡ get_or l.initial.senders.items c 0 + count c (take l.target-index l.targets);
}
