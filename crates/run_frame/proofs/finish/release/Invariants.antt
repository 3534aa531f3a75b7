use Rattle.std.proofs.Common.{◌≡◌, drop}
use Rattle.core_frame.specs.Step.{released}
use Rattle.run_frame.proofs.finish.release.Given as goal

abbrev pub invariant-loop-consumer : goal.invariant-loop-consumer
invariant-loop-consumer l = record {
  pool : released (drop l.consumer-index l.consumers) l.pool ≡ released l.consumers l.initial.pool;
  spillable : l.pool.spillable ≡ l.initial.pool.spillable;
}
