use Rattle.std.proofs.Common.{◌≡◌, length}
use Rattle.dfx_outside.specs.Contents as spec
use Rattle.dfx_outside.proofs.memory.files.are_distinct.Given as goal

abbrev pub invariant-loop-file : goal.invariant-loop-file
invariant-loop-file l = spec.are_distinct l.rest ≡ spec.are_distinct l.fn.files

abbrev pub decreases-loop-file : goal.decreases-loop-file
decreases-loop-file l = length l.rest
