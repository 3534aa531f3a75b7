use Rattle.std.proofs.Common.{◌≡◌, ◌∙◌, ap, length, arith, true, false, subst, Option, refl}
use Rattle.std.specs.Prelude.{IfSome}
use Rattle.std.proofs.lemmas.Bool.{lt-ltb, le-ltb}
use Rattle.value_columns.specs.Columns.{KindedValues}
use Rattle.scalar_vector.specs.Fronts.{Front}
use Rattle.scalar_vector.specs.Vectors.{values_of}
use Rattle.scan_run.specs.Words.{BeginsWith}
use Rattle.scan_run.proofs.FrontSteps.{length_evaluated, projection_more}
use Rattle.scan_run.proofs.front.push_expr.Goals as goal

pub overflow_cast-rows : goal.overflow_cast-rows
overflow_cast-rows c = omega (arith, c.len-rows.ensures, ap (λ (f : Front). length f.values) c.in_ok-part.ensures, length_evaluated c.args.batch.now.rows c.args.expr.now)

pub column_of-requires : goal.column_of-requires
column_of-requires c = record { few = omega (arith, ap (λ (f : Front). length f.values) c.in_ok-part.ensures, length_evaluated c.args.batch.now.rows c.args.expr.now) }

pub returns-then-rows-made : goal.returns-then-rows-made
returns-then-rows-made c exprs is p =
    let begins = subst (λ (o : Option KindedValues). IfSome o (λ k. BeginsWith k.values (values_of c.in_ok-part.part.vector))) c.in-Some.is c.in_ok-column.ensures in
    let less = lt-ltb c.len-rows.result c.args.made.now.rows c.if-rows-made.true in
    projection_more exprs c.args.expr.now c.args.batch.now.rows c.args.made.now _ c.in-Some.column (values_of c.in_ok-part.part.vector) c.in_ok-part.part.fault c.len-rows.result
    p (ap (λ (f : Front). f.values) c.in_ok-part.ensures) (ap (λ (f : Front). f.fault) c.in_ok-part.ensures) begins c.len-rows.ensures c.in_ok-push.ensures.items (rw less refl) (rw less refl)

pub returns-else-rows-made : goal.returns-else-rows-made
returns-else-rows-made c exprs is p =
    let begins = subst (λ (o : Option KindedValues). IfSome o (λ k. BeginsWith k.values (values_of c.in_ok-part.part.vector))) c.in-Some.is c.in_ok-column.ensures in
    let more = le-ltb c.len-rows.result c.args.made.now.rows c.if-rows-made.false in
    projection_more exprs c.args.expr.now c.args.batch.now.rows c.args.made.now _ c.in-Some.column (values_of c.in_ok-part.part.vector) c.in_ok-part.part.fault c.len-rows.result
    p (ap (λ (f : Front). f.values) c.in_ok-part.ensures) (ap (λ (f : Front). f.fault) c.in_ok-part.ensures) begins c.len-rows.ensures c.in_ok-push.ensures.items (rw more refl) (rw more refl)
