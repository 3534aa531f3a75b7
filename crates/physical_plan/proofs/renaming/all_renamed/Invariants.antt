use Rattle.std.proofs.Common.{◌≡◌, drop}
use Rattle.physical_plan.specs.Properties.{place_in, all_renamed}
use Rattle.physical_plan.proofs.Renamings.{after}
use Rattle.physical_plan.proofs.renaming.all_renamed.Given as goal

abbrev pub invariant-loop-column : goal.invariant-loop-column
invariant-loop-column l = after l.renamed (all_renamed (place_in l.items) (drop l.column-index l.columns)) ≡ all_renamed (place_in l.items) l.columns
