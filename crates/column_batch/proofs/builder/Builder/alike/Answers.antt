use Rattle.std.proofs.Common.{rules, ◌≡◌, List, sym, ap, ◌∙◌, subst, false}
use Rattle.dfx_value.specs.KindedRows.{KindedRows}
use Rattle.value_columns.specs.Columns.{KindedValues}
use Rattle.column_batch.specs.Batches.{kinds_of}
use Rattle.column_batch.specs.Parts.{Fills, empties}
use Rattle.column_batch.proofs.BuilderLemmas.{fills-empties, kinds-empties}
use Rattle.column_batch.proofs.builder.Builder.alike.Goals as goal

pub invariant_of-result : goal.invariant_of-result
invariant_of-result c =
    let P : List KindedValues → Type 0 = λ x. Fills x 0 false in
    subst P (sym c.in_ok-empty_alike.ensures) (fills-empties (kinds_of c.deref.result.now))

pub returns-clause-kinds : goal.returns-clause-kinds
returns-clause-kinds c =
    ap kinds_of c.in_ok-empty_alike.ensures ∙ kinds-empties (kinds_of c.deref.result.now) ∙ ap kinds_of c.deref.ensures.value ∙ ap (λ (x : KindedRows). x.kinds) c.batch.view_is
