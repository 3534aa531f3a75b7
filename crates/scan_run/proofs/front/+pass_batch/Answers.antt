use Rattle.std.proofs.Common.{◌≡◌, ◌∙◌, ap, sym, subst, Option, List}
use Rattle.std.specs.Prelude.{IfSome}
use Rattle.logical_plan.specs.Items.{Item, of_rows, filter_items}
use Rattle.logical_plan.specs.declared.plan.Logical.{Logical}
use Rattle.scan_run.specs.Chains.{over}
use Rattle.scan_run.specs.Words.{IsFrontOf}
use Rattle.scan_run.specs.declared.front.Front.{Front as Held}
use Rattle.scan_run.proofs.ChainSteps.{over-Scan, over-Filter}
use Rattle.scan_run.proofs.FrontSteps.{front_all, slice_all}
use Rattle.scan_run.proofs.front.+pass_batch.Goals as goal

pub returns-in_ok-slice-in-Scan : goal.returns-in_ok-slice-in-Scan
returns-in_ok-slice-in-Scan t c =
    front_all _ c.args.batch.now.rows _ (ap (λ (q : Logical). over q (of_rows c.args.batch.now.rows)) c.in-Scan.is ∙ over-Scan _ _ (of_rows c.args.batch.now.rows))
    (c.in_ok-slice-in-Scan.ensures.rows ∙ slice_all c.args.batch.now.rows c.rows.result c.rows.ensures.rows)

pub returns-in_ok-filter_front-in-Some : goal.returns-in_ok-filter_front-in-Some
returns-in_ok-filter_front-in-Some t c =
    let below = subst (λ (o : Option Held). IfSome o (λ f. IsFrontOf (over c.get.result.now (of_rows c.args.batch.now.rows)) f.batch.rows f.fault)) c.in-Some.is c.in_ok-front-in-Filter.ensures in
    let is : over c.args.body.now (of_rows c.args.batch.now.rows) ≡ filter_items c.in-Filter.test (over c.get.result.now (of_rows c.args.batch.now.rows)) =
    ap (λ (q : Logical). over q (of_rows c.args.batch.now.rows)) c.in-Filter.is ∙ over-Filter _ _ (of_rows c.args.batch.now.rows) ∙ ap (λ (q : Logical). filter_items c.in-Filter.test (over q (of_rows c.args.batch.now.rows))) (sym c.get.ensures) in
    subst (λ (is : List Item). IsFrontOf is c.in_ok-filter_front-in-Some.field-0.batch.rows c.in_ok-filter_front-in-Some.field-0.fault) (sym is) (c.in_ok-filter_front-in-Some.ensures _ below)
