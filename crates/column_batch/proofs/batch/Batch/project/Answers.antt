use Rattle.std.proofs.Common.{rules, ◌≡◌, ◌+◌, ◌<◌, ◌≤◌, List, All, length, get_or, map, ap, sym, ◌∙◌, subst, arith}
use Rattle.std.proofs.lemmas.List.{length-map}
use Rattle.std.specs.Prelude.{slice_range}
use Rattle.dfx_value.specs.KindedRows.{KindedRows}
use Rattle.value_columns.specs.Columns.{KindedValues}
use Rattle.column_batch.specs.Batches.{rows_from, kinds_of, cells_at, kinds_at}
use Rattle.column_batch.specs.Parts.{Whole, columns_at}
use Rattle.column_batch.proofs.ProjectLemmas.{kinds-columns_at, rows-columns_at, whole-columns_at}
use Rattle.column_batch.proofs.batch.Batch.project.Goals as goal

pub share_some-requires : goal.share_some-requires
share_some-requires c =
    let kinds : length c.args.self.now.kinds ≡ length c.self.inside.columns.items = ap (λ (x : KindedRows). length x.kinds) (sym c.self.view_is) ∙ length-map c.self.inside.columns.items (λ (x : KindedValues). x.kind) in
    let P : List KindedValues → Type 0 = λ x. All (λ k. k < length x) c.args.columns.now in
    subst P (sym c.deref.ensures.value) (λ k d l. omega (arith, c.requires k d l))

pub invariant_of-result : goal.invariant_of-result
invariant_of-result c =
    let kinds : length c.args.self.now.kinds ≡ length c.self.inside.columns.items = ap (λ (x : KindedRows). length x.kinds) (sym c.self.view_is) ∙ length-map c.self.inside.columns.items (λ (x : KindedValues). x.kind) in
    let some : c.in_ok-share_some.field-0.items ≡ columns_at c.self.inside.columns.items c.args.columns.now = c.in_ok-share_some.ensures ∙ ap (λ (x : List KindedValues). columns_at x c.args.columns.now) c.deref.ensures.value in
    let P : List KindedValues → Type 0 = λ x. Whole x c.self.inside.from c.self.inside.rows in
    subst P (sym some) (whole-columns_at c.self.inside.columns.items c.self.inside.from c.self.inside.rows c.args.columns.now c.self.invariant (λ k d l. omega (arith, c.requires k d l)))

pub returns-clause-kinds : goal.returns-clause-kinds
returns-clause-kinds c =
    let some : c.in_ok-share_some.field-0.items ≡ columns_at c.self.inside.columns.items c.args.columns.now = c.in_ok-share_some.ensures ∙ ap (λ (x : List KindedValues). columns_at x c.args.columns.now) c.deref.ensures.value in
    ap kinds_of some ∙ kinds-columns_at c.self.inside.columns.items c.args.columns.now ∙ ap (λ (x : KindedRows). kinds_at x.kinds c.args.columns.now) c.self.view_is

pub returns-clause-rows : goal.returns-clause-rows
returns-clause-rows c =
    let some : c.in_ok-share_some.field-0.items ≡ columns_at c.self.inside.columns.items c.args.columns.now = c.in_ok-share_some.ensures ∙ ap (λ (x : List KindedValues). columns_at x c.args.columns.now) c.deref.ensures.value in
    ap (λ (x : List KindedValues). rows_from x c.self.inside.from c.self.inside.rows) some
    ∙ rows-columns_at c.self.inside.columns.items c.args.columns.now c.self.inside.from c.self.inside.rows
    ∙ ap (λ (x : KindedRows). map (cells_at c.args.columns.now) x.rows) c.self.view_is
