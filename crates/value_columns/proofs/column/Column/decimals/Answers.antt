use Rattle.std.proofs.Common.{rules, ◌≡◌, map, ap, ◌∙◌}
use Rattle.std.specs.Prelude.{slice_range}
use Rattle.value_columns.specs.Columns.{KindedValues, or_null}
use Rattle.value_columns.specs.Storage.{at_scale, values_of}
use Rattle.value_columns.proofs.ColumnLemmas.{masked-values}
use Rattle.value_columns.proofs.column.Column.decimals.Goals as goal

pub returns-clause-value : goal.returns-clause-value
returns-clause-value c =
    ap (map (or_null (at_scale c.args.scale))) c.part.ensures.value
    ∙ masked-values (at_scale c.args.scale) c.decimals.result.now (values_of c.self.inside.cells) c.args.from c.args.to c.decimals.ensures
    ∙ ap (λ (x : KindedValues). slice_range x.values c.args.from c.args.to) c.self.view_is
