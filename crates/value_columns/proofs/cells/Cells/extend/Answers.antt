use Rattle.std.proofs.Common.{rules, ◌≡◌, ◌++◌, map, sym, ap, ◌∙◌}
use Rattle.std.specs.Prelude.{slice_range}
use Rattle.dfx_value.specs.declared.value.Value.TheVariants as value
use Rattle.value_columns.specs.Columns.{or_null}
use Rattle.value_columns.specs.Storage.{at_scale, values_of}
use Rattle.value_columns.specs.declared.cells.Cells.{Cells}
use Rattle.value_columns.proofs.ColumnLemmas.{values-extended}
use Rattle.value_columns.proofs.cells.Cells.extend.Goals as goal

pub returns-in_ok-extend-in-Truths-clause-ok : goal.returns-in_ok-extend-in-Truths-clause-ok
returns-in_ok-extend-in-Truths-clause-ok c =
    ap (map (or_null value.Bool)) c.in_ok-extend-in-Truths.ensures.ok
    ∙ values-extended value.Bool c.in-Truths.truths c.truths.result.now c.args.from c.args.to
    ∙ ap (λ t. map (or_null value.Bool) c.in-Truths.truths ++ slice_range t c.args.from c.args.to) c.truths.ensures
    ∙ ap (λ (x : Cells). values_of x ++ slice_range (values_of c.args.others.now) c.args.from c.args.to) (sym c.in-Truths.is)

pub returns-in_ok-extend-in-Ints-clause-ok : goal.returns-in_ok-extend-in-Ints-clause-ok
returns-in_ok-extend-in-Ints-clause-ok c =
    ap (map (or_null value.Int)) c.in_ok-extend-in-Ints.ensures.ok
    ∙ values-extended value.Int c.in-Ints.numbers c.ints.result.now c.args.from c.args.to
    ∙ ap (λ t. map (or_null value.Int) c.in-Ints.numbers ++ slice_range t c.args.from c.args.to) c.ints.ensures
    ∙ ap (λ (x : Cells). values_of x ++ slice_range (values_of c.args.others.now) c.args.from c.args.to) (sym c.in-Ints.is)

pub returns-in_ok-extend-in-Decimals-clause-ok : goal.returns-in_ok-extend-in-Decimals-clause-ok
returns-in_ok-extend-in-Decimals-clause-ok c =
    ap (map (or_null (at_scale c.in-Decimals.scale))) c.in_ok-extend-in-Decimals.ensures.ok
    ∙ values-extended (at_scale c.in-Decimals.scale) c.in-Decimals.numbers c.decimals.result.now c.args.from c.args.to
    ∙ ap (λ t. map (or_null (at_scale c.in-Decimals.scale)) c.in-Decimals.numbers ++ slice_range t c.args.from c.args.to) c.decimals.ensures
    ∙ ap (λ (x : Cells). values_of x ++ slice_range (values_of c.args.others.now) c.args.from c.args.to) (sym c.in-Decimals.is)

pub returns-in_ok-extend-in-Texts-clause-ok : goal.returns-in_ok-extend-in-Texts-clause-ok
returns-in_ok-extend-in-Texts-clause-ok c =
    ap (map (or_null value.Text)) c.in_ok-extend-in-Texts.ensures.ok
    ∙ values-extended value.Text c.in-Texts.texts c.texts.result.now c.args.from c.args.to
    ∙ ap (λ t. map (or_null value.Text) c.in-Texts.texts ++ slice_range t c.args.from c.args.to) c.texts.ensures
    ∙ ap (λ (x : Cells). values_of x ++ slice_range (values_of c.args.others.now) c.args.from c.args.to) (sym c.in-Texts.is)
