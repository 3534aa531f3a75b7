use Rattle.std.proofs.Common.{rules, ◌≡◌, ◌+◌, ◌<◌, ◌≤◌, List, All, length, get_or, map, ap, sym, ◌∙◌, subst, arith}
use Rattle.std.proofs.lemmas.List.{length-map}
use Rattle.std.specs.Prelude.{slice_range}
use Rattle.dfx_value.specs.KindedRows.{KindedRows}
use Rattle.value_columns.specs.Columns.{KindedValues}
use Rattle.dfx_value.specs.declared.kind.Kind.TheVariants as kind
use Rattle.column_batch.specs.Batches.{column_of}
use Rattle.column_batch.proofs.ProjectLemmas.{kind-within, long-at, column_of-rows}
use Rattle.column_batch.proofs.batch.Batch.decimals.Goals as goal

pub decimals-requires-clause-kind : goal.decimals-requires-clause-kind
decimals-requires-clause-kind c =
    let kinds : length c.args.self.now.kinds ≡ length c.self.inside.columns.items = ap (λ (x : KindedRows). length x.kinds) (sym c.self.view_is) ∙ length-map c.self.inside.columns.items (λ (x : KindedValues). x.kind) in
    let kind : (get_or c.self.inside.columns.items c.args.at c.index.result.now).kind ≡ get_or c.args.self.now.kinds c.args.at kind.Bool =
    kind-within c.self.inside.columns.items c.args.at c.index.result.now (omega (arith, c.requires.column)) ∙ ap (λ (x : KindedRows). get_or x.kinds c.args.at kind.Bool) c.self.view_is in
    let item : c.column.result.now ≡ get_or c.self.inside.columns.items c.args.at c.index.result.now = c.column.ensures ∙ c.index.ensures in
    ap (λ (x : KindedValues). x.kind) item ∙ kind ∙ c.requires.kind

pub decimals-requires-clause-within : goal.decimals-requires-clause-within
decimals-requires-clause-within c =
    let kinds : length c.args.self.now.kinds ≡ length c.self.inside.columns.items = ap (λ (x : KindedRows). length x.kinds) (sym c.self.view_is) ∙ length-map c.self.inside.columns.items (λ (x : KindedValues). x.kind) in
    let long : c.self.inside.from + c.self.inside.rows ≤ length (get_or c.self.inside.columns.items c.args.at c.index.result.now).values =
    long-at c.self.inside.columns.items c.self.inside.from c.self.inside.rows c.args.at c.index.result.now c.self.invariant (omega (arith, c.requires.column)) in
    let item : c.column.result.now ≡ get_or c.self.inside.columns.items c.args.at c.index.result.now = c.column.ensures ∙ c.index.ensures in
    let P : KindedValues → Type 0 = λ x. c.self.inside.from + c.self.inside.rows ≤ length x.values in
    subst P (sym item) long

pub returns : goal.returns
returns c =
    let kinds : length c.args.self.now.kinds ≡ length c.self.inside.columns.items = ap (λ (x : KindedRows). length x.kinds) (sym c.self.view_is) ∙ length-map c.self.inside.columns.items (λ (x : KindedValues). x.kind) in
    let long : c.self.inside.from + c.self.inside.rows ≤ length (get_or c.self.inside.columns.items c.args.at c.index.result.now).values =
    long-at c.self.inside.columns.items c.self.inside.from c.self.inside.rows c.args.at c.index.result.now c.self.invariant (omega (arith, c.requires.column)) in
    let item : c.column.result.now ≡ get_or c.self.inside.columns.items c.args.at c.index.result.now = c.column.ensures ∙ c.index.ensures in
    c.decimals.ensures.value ∙ ap (λ (x : KindedValues). slice_range x.values c.self.inside.from (c.self.inside.from + c.self.inside.rows)) item
    ∙ sym (column_of-rows c.self.inside.columns.items c.self.inside.from c.self.inside.rows c.args.at c.index.result.now (omega (arith, c.requires.column)) long)
    ∙ ap (λ (x : KindedRows). column_of x.rows c.args.at) c.self.view_is
