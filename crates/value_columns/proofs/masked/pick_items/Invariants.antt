use Rattle.std.proofs.Common.{◌≡◌, take, []}
use Rattle.value_columns.specs.Masked.{masked, picked}
use Rattle.value_columns.proofs.masked.pick_items.Given as goal

abbrev pub invariant-loop-place : goal.invariant-loop-place
invariant-loop-place g l = masked l.new.items [] ≡ picked (masked l.items []) l.from (take l.place-index l.places)
