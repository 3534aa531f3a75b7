use Rattle.std.proofs.Common.{◌≡◌, ℕ, List, [], ◌+◌, ◌<◌, ◌∙◌, length, get_or, Ok, arith, rules, sym, subst}
use Rattle.value_columns.specs.Columns.{KindedValues}
use Rattle.csv_columns.specs.Filled.{with_field}
use Rattle.csv_columns.proofs.FillSteps.{column_at, fill_steps, fields_more}
use Rattle.csv_columns.proofs.ExtendSteps.{all_field}
use Rattle.csv_columns.proofs.columns.push_record.Goals as goal

pub push_field-requires : goal.push_field-requires
push_field-requires c =
    let column : c.index_mut-column.result.now ≡ get_or c.args.columns.now.items c.loop-at.at c.index_mut-column.result.now =
    c.index_mut-column.ensures.value ∙ column_at c.loop-at.at c.args.columns.now.items c.loop-at.columns.items c.index_mut-column.result.now c.loop-at.invariant.rest in
    let P : KindedValues → Type 0 = λ x. length x.values + 1 < 4294967296 in
    record { room = subst P (sym column) (c.requires.room c.loop-at.at c.index_mut-column.result.now (omega arith)) }

pub loop-at-preserved : goal.loop-at-preserved
loop-at-preserved c =
    let put = subst (λ (x : KindedValues). with_field c.args.number (c.loop-at.at + 1) x c.field.result.now ≡ Ok c.push_field.new.column) c.index_mut-column.ensures.value c.in_ok-push_field.ensures.ok in
    record {
      kept = all_field c.args.number (c.loop-at.at + 1) c.args.columns.now.items c.loop-at.columns.items c.loop-at.at c.index_mut-column.result.now _ c.push_field.new.column c.loop-at.invariant.kept put;
      count = search (rules, fill_steps);
      rest = search (rules, fill_steps);
      whole =
          fields_more c.args.number (c.loop-at.at + 1) c.loop-at.at c.args.columns.now.items c.loop-at.columns.items c.args.reader.now.fields c.push_field.new.column c.index_mut-column.result.now []
          (omega arith) (omega arith) c.loop-at.invariant.count
          (subst (λ (f : List ℕ). with_field c.args.number (c.loop-at.at + 1) (get_or c.args.columns.now.items c.loop-at.at c.index_mut-column.result.now) f ≡ Ok c.push_field.new.column) c.field.ensures
          (subst (λ (x : KindedValues). with_field c.args.number (c.loop-at.at + 1) x c.field.result.now ≡ Ok c.push_field.new.column)
          (c.index_mut-column.ensures.value ∙ column_at c.loop-at.at c.args.columns.now.items c.loop-at.columns.items c.index_mut-column.result.now c.loop-at.invariant.rest) c.in_ok-push_field.ensures.ok))
          ∙ c.loop-at.invariant.whole;
    }
