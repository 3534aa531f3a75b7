use Rattle.std.proofs.Common.{rules, List, sym, subst, false}
use Rattle.value_columns.specs.Columns.{KindedValues}
use Rattle.column_batch.specs.Parts.{Fills}
use Rattle.column_batch.proofs.BuilderLemmas.{fills-empties}
use Rattle.column_batch.proofs.builder.Builder.new.Goals as goal

pub invariant_of-result : goal.invariant_of-result
invariant_of-result c =
    let P : List KindedValues → Type 0 = λ x. Fills x 0 false in
    subst P (sym c.in_ok-empty_columns.ensures) (fills-empties c.args.kinds.now)
