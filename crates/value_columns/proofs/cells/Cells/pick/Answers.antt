use Rattle.std.proofs.Common.{rules, ◌≡◌, ap, sym, ◌∙◌, map}
use Rattle.dfx_value.specs.declared.value.Value.TheVariants as value
use Rattle.value_columns.specs.Columns.{or_null, chosen_of}
use Rattle.value_columns.specs.Storage.{at_scale, values_of}
use Rattle.value_columns.specs.declared.cells.Cells.{Cells}
use Rattle.value_columns.proofs.ColumnLemmas.{values-picked}
use Rattle.value_columns.proofs.cells.Cells.pick.Goals as goal

pub returns-in_ok-pick-in-Truths-clause-values : goal.returns-in_ok-pick-in-Truths-clause-values
returns-in_ok-pick-in-Truths-clause-values c =
    ap (map (or_null value.Bool)) c.in_ok-pick-in-Truths.ensures ∙ values-picked value.Bool c.in-Truths.truths c.args.from c.args.places.now ∙ ap (λ (x : Cells). chosen_of (values_of x) c.args.from c.args.places.now) (sym c.in-Truths.is)

pub returns-in_ok-pick-in-Ints-clause-values : goal.returns-in_ok-pick-in-Ints-clause-values
returns-in_ok-pick-in-Ints-clause-values c =
    ap (map (or_null value.Int)) c.in_ok-pick-in-Ints.ensures ∙ values-picked value.Int c.in-Ints.numbers c.args.from c.args.places.now ∙ ap (λ (x : Cells). chosen_of (values_of x) c.args.from c.args.places.now) (sym c.in-Ints.is)

pub returns-in_ok-pick-in-Decimals-clause-values : goal.returns-in_ok-pick-in-Decimals-clause-values
returns-in_ok-pick-in-Decimals-clause-values c =
    ap (map (or_null (at_scale c.in-Decimals.scale))) c.in_ok-pick-in-Decimals.ensures ∙ values-picked (at_scale c.in-Decimals.scale) c.in-Decimals.numbers c.args.from c.args.places.now ∙ ap (λ (x : Cells). chosen_of (values_of x) c.args.from c.args.places.now) (sym c.in-Decimals.is)

pub returns-in_ok-pick-in-Texts-clause-values : goal.returns-in_ok-pick-in-Texts-clause-values
returns-in_ok-pick-in-Texts-clause-values c =
    ap (map (or_null value.Text)) c.in_ok-pick-in-Texts.ensures ∙ values-picked value.Text c.in-Texts.texts c.args.from c.args.places.now ∙ ap (λ (x : Cells). chosen_of (values_of x) c.args.from c.args.places.now) (sym c.in-Texts.is)
