use Rattle.std.proofs.Common.{ap, sym, ◌∙◌, List}
use Rattle.dfx_value.specs.declared.value.Value.{Value}
use Rattle.dfx_value.specs.declared.value.Value.TheVariants as value
use Rattle.scalar_vector.specs.Items.{ints, items_of, truths}
use Rattle.scalar_vector.specs.Vectors.{values_of}
use Rattle.scalar_vector.specs.Woven.{woven}
use Rattle.scalar_vector.proofs.level.weave.Goals as goal

pub returns-in-Some-Some : goal.returns-in-Some-Some
returns-in-Some-Some c = c.in_ok-items.ensures value.Int
    ∙ ap (λ (vs : List Value). woven c.args.marks.now vs c.args.taken.now.fault (ints (items_of c.in-Some-Some.others)) c.args.rest.now.fault) (sym c.in-Some-Some.ensures)
    ∙ ap (λ (vs : List Value). woven c.args.marks.now (values_of c.args.taken.now.vector) c.args.taken.now.fault vs c.args.rest.now.fault) (sym c.in-Some-Some.ensures')

pub returns-in-Some-Some-2 : goal.returns-in-Some-Some-2
returns-in-Some-Some-2 c = c.in_ok-items-2.ensures value.Bool
    ∙ ap (λ (vs : List Value). woven c.args.marks.now vs c.args.taken.now.fault (truths (items_of c.in-Some-Some-2.others)) c.args.rest.now.fault) (sym c.in-Some-Some-2.ensures)
    ∙ ap (λ (vs : List Value). woven c.args.marks.now (values_of c.args.taken.now.vector) c.args.taken.now.fault vs c.args.rest.now.fault) (sym c.in-Some-Some-2.ensures')
