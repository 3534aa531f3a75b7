use Rattle.std.proofs.Common.{arith}
use Rattle.scalar_vector.specs.Steps.{applied}
use Rattle.value_columns.specs.Cells.{value_of}
use Rattle.scalar_vector.specs.Vectors.{values_of, front_of}
use Rattle.scalar_vector.proofs.Loops.{mapped-step, mapped-stop, if_ok_more}
use Rattle.scalar_vector.proofs.unary.apply_values.Goals as goal

pub returns-in-Err : goal.returns-in-Err
returns-in-Err c = if_ok_more _ _ c.stopped.result
    (λ p stops. mapped-stop (applied c.args.function) (values_of c.args.vector.now) c.loop-at.at c.loop-at.values.items c.in-Err.refused
    (value_of c.get.result) _ (front_of p) (omega arith) c.get.ensures c.in-Err.ensures c.loop-at.invariant stops)
    c.stopped.ensures

pub loop-at-preserved : goal.loop-at-preserved
loop-at-preserved c = rw c.in_ok-push-in-Ok.ensures.items (mapped-step (applied c.args.function) (values_of c.args.vector.now) c.loop-at.at c.loop-at.values.items c.in-Ok.value
    (value_of c.get.result) _ (omega arith) c.get.ensures c.in-Ok.ensures c.loop-at.invariant)
