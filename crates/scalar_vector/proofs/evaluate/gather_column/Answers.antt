use Rattle.dfx_value.specs.declared.value.Value.TheVariants as value
use Rattle.value_columns.specs.Masked.{masked}
use Rattle.scalar_vector.specs.Vectors.{places_of}
use Rattle.scalar_vector.proofs.Batches.{gathered}
use Rattle.scalar_vector.proofs.evaluate.gather_column.Goals as goal

pub returns-in_ok-gather_items-in-Int : goal.returns-in_ok-gather_items-in-Int
returns-in_ok-gather_items-in-Int c = gathered value.Int (masked c.ints.result.0.now c.ints.result.1.now) c.in_ok-gather_items-in-Int.field-0 c.args.batch.now.rows c.args.column (places_of c.args.places)
    c.ints.ensures c.in_ok-gather_items-in-Int.ensures

pub returns-in_ok-gather_items-in-Bool : goal.returns-in_ok-gather_items-in-Bool
returns-in_ok-gather_items-in-Bool c = gathered value.Bool (masked c.truths.result.0.now c.truths.result.1.now) c.in_ok-gather_items-in-Bool.field-0 c.args.batch.now.rows c.args.column (places_of c.args.places)
    c.truths.ensures c.in_ok-gather_items-in-Bool.ensures
