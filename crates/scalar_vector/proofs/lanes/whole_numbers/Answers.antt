use Rattle.std.proofs.Common.{ap, ◌∙◌, map}
use Rattle.dfx_value.specs.declared.value.Value.TheVariants as value
use Rattle.value_columns.specs.Columns.{or_null}
use Rattle.value_columns.specs.Masked.{masked}
use Rattle.scalar_vector.proofs.LaneSteps.{unmasked}
use Rattle.scalar_vector.proofs.lanes.whole_numbers.Goals as goal

pub returns : goal.returns
returns c = ap (map (or_null value.Int)) (c.of_parts.ensures ∙ ap (masked c.args.numbers.items) c.new.ensures.items) ∙ unmasked c.args.numbers.items
