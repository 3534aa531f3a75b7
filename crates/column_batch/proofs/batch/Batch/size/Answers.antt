use Rattle.std.proofs.Common.{rules, ◌≡◌, ◌+◌, ◌<◌, ◌≤◌, List, All, length, get_or, map, ap, sym, ◌∙◌, subst, arith}
use Rattle.std.proofs.lemmas.List.{length-map}
use Rattle.std.specs.Prelude.{slice_range}
use Rattle.dfx_value.specs.KindedRows.{KindedRows}
use Rattle.value_columns.specs.Columns.{KindedValues}
use Rattle.std.specs.Prelude.{min}
use Rattle.dfx_value.specs.KindedRows.{rows_size}
use Rattle.column_batch.specs.Parts.{part_size}
use Rattle.column_batch.proofs.ProjectLemmas.{long-whole, part_size-rows}
use Rattle.column_batch.proofs.batch.Batch.size.Goals as goal

pub size_of-requires-clause-within : goal.size_of-requires-clause-within
size_of-requires-clause-within c =
    let P : List KindedValues → Type 0 = λ x. All (λ (y : KindedValues). c.self.inside.from + c.self.inside.rows ≤ length y.values) x in
    subst P (sym c.deref.ensures.value) (long-whole c.self.inside.columns.items c.self.inside.from c.self.inside.rows c.self.invariant)

pub returns : goal.returns
returns c =
    c.size_of.ensures
    ∙ ap (λ (x : List KindedValues). min (part_size x c.self.inside.from (c.self.inside.from + c.self.inside.rows)) 18446744073709551615) c.deref.ensures.value
    ∙ ap (λ n. min n 18446744073709551615)
    (part_size-rows c.self.inside.columns.items c.self.inside.from c.self.inside.rows (long-whole c.self.inside.columns.items c.self.inside.from c.self.inside.rows c.self.invariant)
    ∙ ap (λ (x : KindedRows). rows_size x.rows) c.self.view_is)
