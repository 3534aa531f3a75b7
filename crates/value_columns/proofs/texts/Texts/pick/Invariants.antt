use Rattle.std.proofs.Common.{◌≡◌, take}
use Rattle.value_columns.specs.Masked.{picked}
use Rattle.value_columns.proofs.texts.Texts.pick.Given as goal

abbrev pub invariant-loop-place : goal.invariant-loop-place
invariant-loop-place l = l.new ≡ picked l.self l.from (take l.place-index l.places)
