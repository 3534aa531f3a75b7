use Rattle.std.proofs.Common.{map}
use Rattle.run_frame.specs.Counts.{CountsSenders}
use Rattle.run_frame.proofs.start.count_senders.Given as goal

abbrev pub invariant-loop-task : goal.invariant-loop-task
invariant-loop-task l = record { counts : CountsSenders l.shape l.task-index (map (λ s. s.items) l.senders.items) }
