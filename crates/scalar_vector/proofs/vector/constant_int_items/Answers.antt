use Rattle.std.proofs.Common.{ap, ◌∙◌}
use Rattle.std.specs.Prelude.{replicate}
use Rattle.dfx_value.specs.declared.value.Value.TheVariants as value
use Rattle.scalar_vector.proofs.ItemSteps.{constant-null}
use Rattle.scalar_vector.proofs.vector.constant_int_items.Goals as goal

pub returns-in-Null : goal.returns-in-Null
returns-in-Null c = ap (replicate c.args.count) c.in-Null.is ∙ constant-null value.Int c.args.count
