use Rattle.std.proofs.Common.{arith}
use Rattle.scalar_exprs.specs.Functions.{operated}
use Rattle.value_columns.specs.Cells.{value_of}
use Rattle.scalar_vector.specs.Vectors.{values_of, front_of}
use Rattle.scalar_vector.proofs.Loops.{zipped-step, zipped-stop, zipped-end, if_ok_more}
use Rattle.scalar_vector.proofs.binary.operate_values.Goals as goal

pub returns-in-Err : goal.returns-in-Err
returns-in-Err c = if_ok_more _ _ c.stopped.result
    (λ p stops. zipped-stop (operated c.args.op) (values_of c.args.left.now) (values_of c.args.right.now) c.loop-at.at c.loop-at.values.items c.in-Err.refused
    (value_of c.get.result) (value_of c.get-in-loop-at.result) _ (front_of p) (omega arith) (omega arith) c.get.ensures c.get-in-loop-at.ensures c.in-Err.ensures c.loop-at.invariant stops)
    c.stopped.ensures

pub loop-at-preserved : goal.loop-at-preserved
loop-at-preserved c = rw c.in_ok-push-in-Ok.ensures.items (zipped-step (operated c.args.op) (values_of c.args.left.now) (values_of c.args.right.now) c.loop-at.at c.loop-at.values.items c.in-Ok.value
    (value_of c.get.result) (value_of c.get-in-loop-at.result) _ (omega arith) (omega arith) c.get.ensures c.get-in-loop-at.ensures c.in-Ok.ensures c.loop-at.invariant)

pub returns : goal.returns
returns c = zipped-end (operated c.args.op) (values_of c.args.left.now) (values_of c.args.right.now) c.loop-at.at c.loop-at.values.items _ (omega arith) c.loop-at.invariant
