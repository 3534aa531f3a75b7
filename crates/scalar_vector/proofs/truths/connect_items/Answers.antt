use Rattle.std.proofs.Common.{arith}
use Rattle.dfx_value.specs.declared.value.Value.TheVariants as value
use Rattle.scalar_exprs.specs.Functions.{operated}
use Rattle.scalar_vector.specs.Items.{items_of}
use Rattle.scalar_vector.proofs.ItemSteps.{pair-step, pair-end}
use Rattle.scalar_vector.proofs.truths.connect_items.Goals as goal

pub loop-at-preserved : goal.loop-at-preserved
loop-at-preserved c = pair-step value.Bool value.Bool (operated c.args.op) (items_of c.args.left.now) (items_of c.args.right.now) c.loop-at.at c.loop-at.truths c.push_item.new.self c.connected.result c.get.result c.get-in-loop-at.result _
    (omega arith) (omega arith) c.get.ensures c.get-in-loop-at.ensures c.connected.ensures c.in_ok-push_item.ensures.ok c.loop-at.invariant

pub returns : goal.returns
returns c = pair-end value.Bool value.Bool (operated c.args.op) (items_of c.args.left.now) (items_of c.args.right.now) c.loop-at.at c.loop-at.truths _ (omega arith) c.loop-at.invariant
