use Rattle.std.proofs.Common.{◌≡◌}
use Rattle.core_frame.specs.Frame.{tabulate}
use Rattle.run_frame.proofs.start.all_woken.Given as goal

abbrev pub invariant-loop-task : goal.invariant-loop-task
invariant-loop-task l = record {
  tasks : l.woken.tasks ≡ tabulate l.task (λ t. t);
  room : l.woken.room ≡ l.tasks;
}
