use Rattle.std.proofs.Common.{rules, ◌≡◌, ◌+◌, ◌<◌, List, length, ap, sym, ◌∙◌, subst, arith, true}
use Rattle.dfx_value.specs.Kinds.{are_of}
use Rattle.dfx_value.specs.KindedRows.{KindedRows}
use Rattle.value_columns.specs.Columns.{KindedValues}
use Rattle.column_batch.specs.Batches.{kinds_of}
use Rattle.column_batch.specs.Parts.{Fills}
use Rattle.column_batch.proofs.BatchLemmas.{length-rows_from}
use Rattle.column_batch.proofs.BuilderLemmas.{fills-next}
use Rattle.column_batch.proofs.builder.Builder.push.Goals as goal

pub push_all-requires-clause-room : goal.push_all-requires-clause-room
push_all-requires-clause-room c =
    let count : length c.args.self.now.rows ≡ c.self.inside.rows = ap (λ (x : KindedRows). length x.rows) (sym c.self.view_is) ∙ length-rows_from c.self.inside.columns.items 0 c.self.inside.rows in
    λ k d l. omega (arith, c.requires.room, c.self.invariant.even c.if-self.false k d l)

pub overflow_add-self : goal.overflow_add-self
overflow_add-self c =
    let count : length c.args.self.now.rows ≡ c.self.inside.rows = ap (λ (x : KindedRows). length x.rows) (sym c.self.view_is) ∙ length-rows_from c.self.inside.columns.items 0 c.self.inside.rows in
    omega (arith, c.requires.room)

pub invariant_of-self : goal.invariant_of-self
invariant_of-self c =
    let row : c.deref.result.now ≡ c.args.row = c.deref.ensures.value ∙ c.row.view_is in
    let fits : are_of (kinds_of c.self.inside.columns.items) c.deref.result.now ≡ true = ap (are_of (kinds_of c.self.inside.columns.items)) row ∙ ap (λ (x : KindedRows). are_of x.kinds c.args.row) c.self.view_is ∙ c.requires.fits in
    let P : List KindedValues → Type 0 = λ x. Fills x (c.self.inside.rows + 1) c.self.inside.full in
    subst P (sym c.in-Ok.ensures.ok) (fills-next c.self.inside.columns.items c.deref.result.now c.self.inside.rows c.self.inside.full c.self.invariant c.if-self.false fits)
