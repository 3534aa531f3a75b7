use Rattle.std.proofs.Common.{ap, sym, ◌∙◌}
use Rattle.dfx_value.specs.declared.value.Value.TheVariants as value
use Rattle.scalar_vector.specs.Items.{ints, items_of, truths}
use Rattle.scalar_vector.specs.Woven.{marked}
use Rattle.scalar_vector.proofs.ItemSteps.{values-marked}
use Rattle.scalar_vector.proofs.vector.Vector.select.Goals as goal

pub returns-in-Some : goal.returns-in-Some
returns-in-Some c = ap ints c.in_ok-choose_items.ensures ∙ values-marked value.Int c.args.marks.now (items_of c.in-Some.items) ∙ ap (marked c.args.marks.now) (sym c.in-Some.ensures)

pub returns-in-Some-truth_items : goal.returns-in-Some-truth_items
returns-in-Some-truth_items c = ap truths c.in_ok-choose_items-2.ensures ∙ values-marked value.Bool c.args.marks.now (items_of c.in-Some-truth_items.items) ∙ ap (marked c.args.marks.now) (sym c.in-Some-truth_items.ensures)
