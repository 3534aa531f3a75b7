use Rattle.std.proofs.Common.{rules, ◌≡◌, ◌+◌, ◌-◌, ◌<◌, ◌≤◌, List, length, ap, sym, ◌∙◌, subst, arith}
use Rattle.std.specs.Prelude.{slice_range}
use Rattle.dfx_value.specs.KindedRows.{KindedRows}
use Rattle.dfx_value.specs.declared.value.Value.{Value}
use Rattle.value_columns.specs.Columns.{KindedValues}
use Rattle.column_batch.specs.Parts.{Whole}
use Rattle.column_batch.specs.Batches.{rows_from}
use Rattle.column_batch.proofs.BatchLemmas.{length-rows_from, whole-part, rows-part}
use Rattle.column_batch.proofs.batch.Batch.slice.Goals as goal

pub overflow_add-result : goal.overflow_add-result
overflow_add-result c =
    let rows : length c.args.self.now.rows ≡ c.self.inside.rows = ap (λ (x : KindedRows). length x.rows) (sym c.self.view_is) ∙ length-rows_from c.self.inside.columns.items c.self.inside.from c.self.inside.rows in
    omega (arith, c.self.invariant.few, c.requires.order, c.requires.within)

pub invariant_of-result : goal.invariant_of-result
invariant_of-result c =
    let rows : length c.args.self.now.rows ≡ c.self.inside.rows = ap (λ (x : KindedRows). length x.rows) (sym c.self.view_is) ∙ length-rows_from c.self.inside.columns.items c.self.inside.from c.self.inside.rows in
    let all : c.in_ok-share_all.field-0.items ≡ c.self.inside.columns.items = c.in_ok-share_all.ensures ∙ c.deref.ensures.value in
    let P : List KindedValues → Type 0 = λ x. Whole x (c.self.inside.from + c.args.from) (c.args.to - c.args.from) in
    subst P (sym all) (whole-part c.self.inside.columns.items c.self.inside.from c.self.inside.rows c.args.from c.args.to c.self.invariant c.requires.order (omega (arith, c.requires.within)))

pub returns-clause-rows : goal.returns-clause-rows
returns-clause-rows c =
    let rows : length c.args.self.now.rows ≡ c.self.inside.rows = ap (λ (x : KindedRows). length x.rows) (sym c.self.view_is) ∙ length-rows_from c.self.inside.columns.items c.self.inside.from c.self.inside.rows in
    let all : c.in_ok-share_all.field-0.items ≡ c.self.inside.columns.items = c.in_ok-share_all.ensures ∙ c.deref.ensures.value in
    ap (λ (x : List KindedValues). rows_from x (c.self.inside.from + c.args.from) (c.args.to - c.args.from)) all
    ∙ rows-part c.self.inside.columns.items c.self.inside.from c.self.inside.rows c.args.from c.args.to c.requires.order (omega (arith, c.requires.within))
    ∙ ap (λ (x : KindedRows). slice_range x.rows c.args.from c.args.to) c.self.view_is
