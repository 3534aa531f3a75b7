use Rattle.std.proofs.Common.{◌≡◌, true, sym, ap, subst, arith, length}
use Rattle.value_columns.specs.Columns.{all_of}
use Rattle.scalar_vector.specs.Fronts.{Front}
use Rattle.scalar_vector.proofs.ColumnKinds.{values_fit, front_short}
use Rattle.scalar_vector.proofs.columns.eval_column.Goals as goal

pub column_of-requires-clause-fits : goal.column_of-requires-clause-fits
column_of-requires-clause-fits c = subst (λ (f : Front). all_of c.args.kind f.values ≡ true) (sym c.in_ok-part.ensures)
    (values_fit c.args.batch.now.kinds c.args.kind c.args.batch.now.rows c.args.expr.now c.rows.ensures.kinded c.requires.constants c.requires.kind)

pub column_of-requires-clause-few : goal.column_of-requires-clause-few
column_of-requires-clause-few c =
    let same = ap (λ (f : Front). length f.values) c.in_ok-part.ensures in
    let short = front_short c.args.batch.now.rows c.args.expr.now in
    omega arith
