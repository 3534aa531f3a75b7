use Rattle.std.proofs.Common.{rules, ◌≡◌, true, ap, sym, ◌∙◌, subst, length, slice_index_or}
use Rattle.dfx_value.specs.Kinds.{is_of}
use Rattle.dfx_value.specs.declared.kind.Kind.TheVariants as kind
use Rattle.value_columns.specs.Columns.{Kinded, or_null}
use Rattle.value_columns.specs.Storage.{kind_of, values_of, at_scale}
use Rattle.value_columns.specs.declared.cells.Cells.{Cells}
use Rattle.value_columns.proofs.ColumnLemmas.{kinded-at}
use Rattle.value_columns.proofs.cells.Cells.get.Goals as goal

pub decimal_cell-requires-clause-value : goal.decimal_cell-requires-clause-value
decimal_cell-requires-clause-value c =
    let P : Cells → Type 0 = λ x. Kinded (kind_of x) (values_of x) in
    ap (λ x. is_of (kind.Dec c.in-Decimals.precision c.in-Decimals.scale) (or_null (at_scale c.in-Decimals.scale) x)) c.get-in-Decimals.ensures
    ∙ kinded-at (kind.Dec c.in-Decimals.precision c.in-Decimals.scale) (at_scale c.in-Decimals.scale) c.in-Decimals.numbers c.args.at (subst P c.in-Decimals.is c.requires.kinded)
