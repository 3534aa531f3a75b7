use Rattle.std.proofs.Common.{◌≡◌, take}
use Rattle.column_batch.specs.Parts.{columns_at}
use Rattle.column_batch.proofs.shared.share_some.Given as goal

abbrev pub invariant-loop-place : goal.invariant-loop-place
invariant-loop-place l = l.some.items ≡ columns_at l.columns (take l.place-index l.places)
