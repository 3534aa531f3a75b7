use Rattle.std.proofs.Common.{arith, sym}
use Rattle.dfx_value.specs.declared.value.Value.TheVariants as value
use Rattle.scalar_exprs.specs.Functions.{operated}
use Rattle.scalar_vector.specs.Items.{items_of}
use Rattle.scalar_vector.proofs.ItemSteps.{pair-step, pair-fault, pair-end}
use Rattle.scalar_vector.proofs.numbers.compute_items.Goals as goal

pub returns-in-Err : goal.returns-in-Err
returns-in-Err c = pair-fault value.Int value.Int (operated c.args.op) (items_of c.args.left.now) (items_of c.args.right.now) c.loop-at.at c.loop-at.numbers c.in-Err.fault c.get.result c.get-in-loop-at.result _
    (omega arith) (omega arith) c.get.ensures c.get-in-loop-at.ensures (sym c.in-Err.ensures) c.loop-at.invariant

pub loop-at-preserved : goal.loop-at-preserved
loop-at-preserved c = pair-step value.Int value.Int (operated c.args.op) (items_of c.args.left.now) (items_of c.args.right.now) c.loop-at.at c.loop-at.numbers c.push_item.new.self c.in-Ok.number c.get.result c.get-in-loop-at.result _
    (omega arith) (omega arith) c.get.ensures c.get-in-loop-at.ensures (sym c.in-Ok.ensures) c.in_ok-push_item-in-Ok.ensures.ok c.loop-at.invariant

pub returns : goal.returns
returns c = pair-end value.Int value.Int (operated c.args.op) (items_of c.args.left.now) (items_of c.args.right.now) c.loop-at.at c.loop-at.numbers _ (omega arith) c.loop-at.invariant
