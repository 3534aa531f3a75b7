use Rattle.std.proofs.Common.{◌≡◌, ◌++◌, drop}
use Rattle.physical_plan.specs.Properties.{place_in, keys_renamed}
use Rattle.physical_plan.proofs.renaming.keys_renamed.Given as goal

abbrev pub invariant-loop-key : goal.invariant-loop-key
invariant-loop-key l = l.renamed ++ keys_renamed (place_in l.items) (drop l.key-index l.keys) ≡ keys_renamed (place_in l.items) l.keys
