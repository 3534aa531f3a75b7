use Rattle.std.proofs.Common.{ap, ◌∙◌, map}
use Rattle.dfx_value.specs.declared.value.Value.TheVariants as value
use Rattle.value_columns.specs.Columns.{or_null}
use Rattle.value_columns.specs.Masked.{masked}
use Rattle.scalar_vector.proofs.LaneSteps.{unmasked_truths}
use Rattle.scalar_vector.proofs.lanes.whole_truths.Goals as goal

pub returns : goal.returns
returns c = ap (map (or_null value.Bool)) (c.of_parts.ensures ∙ ap (masked c.args.truths.items) c.new.ensures.items) ∙ unmasked_truths c.args.truths.items
