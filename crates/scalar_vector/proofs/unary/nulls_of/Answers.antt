use Rattle.std.proofs.Common.{arith, ap, sym, Bool, Ok, Some}
use Rattle.dfx_value.specs.declared.value.Value.TheVariants as value
use Rattle.scalar_vector.specs.declared.unary.Unary.TheVariants as unary
use Rattle.scalar_vector.specs.Items.{truths}
use Rattle.scalar_vector.specs.Steps.{applied}
use Rattle.scalar_vector.specs.Vectors.{values_of}
use Rattle.value_columns.specs.Cells.{value_of}
use Rattle.scalar_vector.proofs.Loops.{mapped-end}
use Rattle.scalar_vector.proofs.ItemSteps.{single-step}
use Rattle.scalar_vector.proofs.unary.nulls_of.Goals as goal

pub loop-at-preserved : goal.loop-at-preserved
loop-at-preserved c = single-step value.Bool (applied unary.IsNull) (values_of c.args.vector.now) c.loop-at.at c.loop-at.bits c.push.new.self (Some c.is_null_cell.result)
    (value_of c.get.result) _ (omega arith) c.get.ensures (ap (λ (b : Bool). Ok (value.Bool b)) (sym c.is_null_cell.ensures)) c.in_ok-push.ensures.ok c.loop-at.invariant

pub returns : goal.returns
returns c = mapped-end (applied unary.IsNull) (values_of c.args.vector.now) c.loop-at.at (truths c.loop-at.bits) _ (omega arith) c.loop-at.invariant
