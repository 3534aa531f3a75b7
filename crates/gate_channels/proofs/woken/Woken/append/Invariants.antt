use Rattle.std.proofs.Common.{◌≡◌, ◌++◌, length}
use Rattle.task_shape.specs.Numbers.{AreApart}
use Rattle.gate_channels.proofs.woken.Woken.append.Given as goal

-- what stands here and then what is left there
abbrev pub invariant-loop-task : goal.invariant-loop-task
invariant-loop-task l = record {
  tasks : l.self.tasks ++ l.other.tasks ≡ l.fn.self.tasks ++ l.fn.other.tasks;
  apart : AreApart l.other.tasks l.self.tasks;
  rooms : (l.self.room ≡ l.fn.self.room) × (l.other.room ≡ l.fn.other.room);
}

abbrev pub decreases-loop-task : goal.decreases-loop-task
decreases-loop-task l = length l.other.tasks
