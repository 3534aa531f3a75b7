use Rattle.std.proofs.Common.{◌≡◌, ◌∙◌, ap, sym, refl, arith, subst, List, take}
use Rattle.std.proofs.lemmas.List.{take_all}
use Rattle.dfx_value.specs.KindedRows.{KindedRows}
use Rattle.logical_plan.specs.Items.{Cells, Item, of_rows, project_items}
use Rattle.column_batch.specs.Batches.{rows_from}
use Rattle.scalar_exprs.specs.declared.expr.Expr.{Expr}
use Rattle.scan_run.specs.Words.{IsFrontOf, IsProjection}
use Rattle.scan_run.proofs.FrontSteps.{projection_none, project_rows}
use Rattle.scan_run.proofs.front.project_batch.Goals as goal

pub loop-expr-init : goal.loop-expr-init
loop-expr-init c = projection_none c.args.batch.now.rows _ c.in_ok-with_capacity.ensures.items c.rows.ensures.rows refl

pub returns : goal.returns
returns c =
    let all : take c.loop-expr.expr-index c.args.exprs.now ≡ c.args.exprs.now = take_all c.loop-expr.expr-index c.args.exprs.now (omega arith) in
    let made : IsProjection c.args.exprs.now c.args.batch.now.rows c.loop-expr.made = subst (λ (es : List Expr). IsProjection es c.args.batch.now.rows c.loop-expr.made) all c.loop-expr.invariant in
    subst (λ (rs : List Cells). IsFrontOf (project_items c.args.exprs.now (of_rows c.args.batch.now.rows)) rs c.loop-expr.made.fault) (sym (ap (λ (b : KindedRows). b.rows) c.of_columns.ensures))
    (subst (λ (is : List Item). IsFrontOf is (rows_from c.loop-expr.made.columns.items 0 c.loop-expr.made.rows) c.loop-expr.made.fault) (sym (project_rows c.args.exprs.now c.args.batch.now.rows)) made.front)
