use Rattle.std.proofs.Common.{◌≡◌, ◌++◌, drop}
use Rattle.physical_plan.specs.Properties.{place_in, pairs_renamed}
use Rattle.physical_plan.proofs.renaming.pairs_renamed.Given as goal

abbrev pub invariant-loop-pair : goal.invariant-loop-pair
invariant-loop-pair l = l.renamed ++ pairs_renamed (place_in l.items) (drop l.pair-index l.pairs) ≡ pairs_renamed (place_in l.items) l.pairs
