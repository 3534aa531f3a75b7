use Rattle.std.proofs.Common.{arith, ap, sym, ◌∙◌, length, ◌≡◌}
use Rattle.dfx_value.specs.declared.value.Value.TheVariants as value
use Rattle.value_columns.specs.Columns.{or_null}
use Rattle.scalar_vector.specs.declared.unary.Unary.TheVariants as unary
use Rattle.scalar_vector.specs.Items.{items_of, truths}
use Rattle.scalar_vector.specs.Steps.{applied}
use Rattle.scalar_vector.proofs.Loops.{mapped-end}
use Rattle.scalar_vector.proofs.ItemSteps.{single-step, length-values, value-at, not-item}
use Rattle.scalar_vector.proofs.unary.not_items.Goals as goal

pub loop-at-preserved : goal.loop-at-preserved
loop-at-preserved c =
    let n : length (truths (items_of c.args.items.now)) ≡ length (items_of c.args.items.now) = length-values value.Bool (items_of c.args.items.now) in
    single-step value.Bool (applied unary.Not) (truths (items_of c.args.items.now)) c.loop-at.at c.loop-at.bits c.push_item.new.self c.not_3.result
    (or_null value.Bool c.get.result) _ (omega arith) (ap (or_null value.Bool) c.get.ensures ∙ sym (value-at value.Bool (items_of c.args.items.now) c.loop-at.at (omega arith)))
    (not-item c.get.result c.not_3.result c.not_3.ensures) c.in_ok-push_item.ensures.ok c.loop-at.invariant

pub returns : goal.returns
returns c =
    let n : length (truths (items_of c.args.items.now)) ≡ length (items_of c.args.items.now) = length-values value.Bool (items_of c.args.items.now) in
    mapped-end (applied unary.Not) (truths (items_of c.args.items.now)) c.loop-at.at (truths c.loop-at.bits) _ (omega arith) c.loop-at.invariant
