use Rattle.std.proofs.Common.{rules, ◌≡◌, ◌+◌, ◌-◌, ◌<◌, ◌≤◌, List, length, take, ap, sym, ◌∙◌, subst, arith, All, true, false}
use Rattle.dfx_value.specs.KindedRows.{KindedRows}
use Rattle.value_columns.specs.Columns.{KindedValues}
use Rattle.column_batch.specs.Batches.{kinds_of, rows_from}
use Rattle.column_batch.specs.Parts.{Fills, all_with_parts}
use Rattle.column_batch.proofs.BatchLemmas.{length-rows_from}
use Rattle.column_batch.proofs.ProjectLemmas.{long-whole}
use Rattle.column_batch.proofs.ExtendLemmas.{fills-extended, fills-cut}
use Rattle.column_batch.proofs.builder.Builder.extend.Goals as goal

pub extend_all-requires-clause-kinds : goal.extend_all-requires-clause-kinds
extend_all-requires-clause-kinds c =
    ap kinds_of c.deref.ensures.value ∙ ap (λ (x : KindedRows). x.kinds) c.batch.view_is ∙ c.requires.kinds ∙ ap (λ (x : KindedRows). x.kinds) (sym c.self.view_is)

pub extend_all-requires-clause-within : goal.extend_all-requires-clause-within
extend_all-requires-clause-within c =
    let P : List KindedValues → Type 0 = λ x. All (λ (y : KindedValues). c.batch.inside.from + c.batch.inside.rows ≤ length y.values) x in
    subst P (sym c.deref.ensures.value) (long-whole c.batch.inside.columns.items c.batch.inside.from c.batch.inside.rows c.batch.invariant)

pub extend_all-requires-clause-room : goal.extend_all-requires-clause-room
extend_all-requires-clause-room c =
    let count : length c.args.self.now.rows ≡ c.self.inside.rows = ap (λ (x : KindedRows). length x.rows) (sym c.self.view_is) ∙ length-rows_from c.self.inside.columns.items 0 c.self.inside.rows in
    let more : length c.args.batch.now.rows ≡ c.batch.inside.rows = ap (λ (x : KindedRows). length x.rows) (sym c.batch.view_is) ∙ length-rows_from c.batch.inside.columns.items c.batch.inside.from c.batch.inside.rows in
    λ k d l. omega (arith, c.requires.room, c.self.invariant.even c.if-self.false k d l)

pub overflow_add-to : goal.overflow_add-to
overflow_add-to c = omega (arith, c.batch.invariant.few)

pub overflow_add-self : goal.overflow_add-self
overflow_add-self c =
    let count : length c.args.self.now.rows ≡ c.self.inside.rows = ap (λ (x : KindedRows). length x.rows) (sym c.self.view_is) ∙ length-rows_from c.self.inside.columns.items 0 c.self.inside.rows in
    let more : length c.args.batch.now.rows ≡ c.batch.inside.rows = ap (λ (x : KindedRows). length x.rows) (sym c.batch.view_is) ∙ length-rows_from c.batch.inside.columns.items c.batch.inside.from c.batch.inside.rows in
    omega (arith, c.requires.room)

pub invariant_of-self : goal.invariant_of-self
invariant_of-self c =
    let kinds : kinds_of c.deref.result.now ≡ kinds_of c.self.inside.columns.items =
    ap kinds_of c.deref.ensures.value ∙ ap (λ (x : KindedRows). x.kinds) c.batch.view_is ∙ c.requires.kinds ∙ ap (λ (x : KindedRows). x.kinds) (sym c.self.view_is) in
    let P : List KindedValues → Type 0 = λ x. All (λ (y : KindedValues). c.batch.inside.from + c.batch.inside.rows ≤ length y.values) x in
    let Q : List KindedValues → Type 0 = λ x. Fills x (c.self.inside.rows + c.batch.inside.rows) c.self.inside.full in
    subst Q (sym c.in-Ok.ensures.ok)
    (fills-extended c.self.inside.columns.items c.deref.result.now c.batch.inside.from c.batch.inside.rows c.self.inside.rows c.self.inside.full c.self.invariant c.if-self.false kinds
    (subst P (sym c.deref.ensures.value) (long-whole c.batch.inside.columns.items c.batch.inside.from c.batch.inside.rows c.batch.invariant)))
