use Rattle.std.proofs.Common.{◌≡◌, take}
use Rattle.column_batch.specs.Parts.{places_from}
use Rattle.column_batch.proofs.batch.places_of.Given as goal

abbrev pub invariant-loop-at : goal.invariant-loop-at
invariant-loop-at l = l.places.items ≡ places_from 0 (take l.at l.keep)
