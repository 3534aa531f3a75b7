use Rattle.std.proofs.Common.{◌≡◌, take, map, length}
use Rattle.dfx_prepare.proofs.declared.counts_of.Given as goal

-- those so far
abbrev pub invariant-loop-files : goal.invariant-loop-files
invariant-loop-files l = l.counts.items ≡ map length (take l.files-index l.paths)
