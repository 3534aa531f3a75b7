use Rattle.std.proofs.Common.{◌≡◌, ◌++◌, drop}
use Rattle.dfx_outside.specs.Memory.{reads_of}
use Rattle.dfx_outside.proofs.memory.files.failing_reads.Given as goal

abbrev pub invariant-loop-one : goal.invariant-loop-one
invariant-loop-one l = l.reads.items ++ reads_of (drop l.one-index l.failing) l.path ≡ reads_of l.failing l.path
