use Rattle.std.proofs.Common.{◌≡◌, length, ap, sym, ◌∙◌, arith}
use Rattle.value_columns.specs.Columns.{KindedValues}
use Rattle.scalar_vector.specs.Fronts.{evaluated}
use Rattle.scalar_vector.proofs.ColumnKinds.{front_short}
use Rattle.op_basic.proofs.Projects.{made_whole, made_front}
use Rattle.op_basic.proofs.project.with_column.Goals as goal

pub slice-requires-clause-within : goal.slice-requires-clause-within
slice-requires-clause-within c =
    let n : c.len-count.result ≡ length (evaluated c.args.made.front.rows c.args.expr.now).values = c.len-count.ensures ∙ ap length c.in_ok-column.ensures.values in
    omega (arith, front_short c.args.made.front.rows c.args.expr.now)

pub returns-in-None-clause-made : goal.returns-in-None-clause-made
returns-in-None-clause-made c es rows h =
    made_whole es c.args.expr.now rows c.args.made.front.rows c.args.made.columns.items c.push.new.self.items c.in_ok-new.field-0 c.args.made.fault h
    (ap (λ (x : KindedValues). x.values) c.in_ok-new.ensures ∙ c.in_ok-column.ensures.values)
    (sym c.in-None.is ∙ c.in_ok-column.ensures.fault)
    c.in_ok-push.ensures.items

pub returns-in_ok-slice-in-Some-clause-made : goal.returns-in_ok-slice-in-Some-clause-made
returns-in_ok-slice-in-Some-clause-made c es rows h =
    made_front es c.args.expr.now rows c.args.made.front.rows c.in_ok-slice-in-Some.field-0.rows c.args.made.columns.items c.push.new.self.items c.in_ok-new.field-0 c.args.made.fault
    c.in_ok-column.field-0.fault c.in-Some.field-0 c.len-count.result h
    (ap (λ (x : KindedValues). x.values) c.in_ok-new.ensures ∙ c.in_ok-column.ensures.values)
    c.in_ok-column.ensures.fault c.in-Some.is c.in_ok-push.ensures.items
    (c.len-count.ensures ∙ ap (λ (x : KindedValues). length x.values) (sym c.in_ok-new.ensures))
    c.in_ok-slice-in-Some.ensures.rows
