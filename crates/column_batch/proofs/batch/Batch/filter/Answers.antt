use Rattle.std.proofs.Common.{rules, ◌≡◌, length, ap, ◌∙◌, arith}
use Rattle.column_batch.specs.Parts.{places_from}
use Rattle.column_batch.proofs.BatchLemmas.{length-places}
use Rattle.column_batch.proofs.batch.Batch.filter.Goals as goal

pub pick-requires-clause-few : goal.pick-requires-clause-few
pick-requires-clause-few c =
    let places : length c.deref.result.now ≡ length (places_from 0 c.args.keep.now) = ap length (c.deref.ensures.value ∙ c.in_ok-places.ensures) in
    omega (arith, length-places 0 c.args.keep.now)
