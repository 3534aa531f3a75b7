use Rattle.std.proofs.Common.{◌≡◌, ◌++◌, drop}
use Rattle.std.specs.List.{filter_map}
use Rattle.physical_plan.specs.Properties.{place_in}
use Rattle.physical_plan.proofs.renaming.columns_renamed.Given as goal

abbrev pub invariant-loop-column : goal.invariant-loop-column
invariant-loop-column l = l.renamed ++ filter_map (place_in l.items) (drop l.column-index l.columns) ≡ filter_map (place_in l.items) l.columns
