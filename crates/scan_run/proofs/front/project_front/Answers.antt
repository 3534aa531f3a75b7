use Rattle.std.proofs.Common.{◌≡◌, Option, subst}
use Rattle.std.specs.Prelude.{IfSome}
use Rattle.logical_plan.specs.Items.{project_items, of_rows}
use Rattle.scan_run.specs.Words.{IsFrontOf}
use Rattle.scan_run.specs.declared.front.Front.{Front as Held}
use Rattle.scan_run.proofs.FrontSteps.{front_project}
use Rattle.scan_run.proofs.front.project_front.Goals as goal

pub returns : goal.returns
returns c items h =
    let made = subst (λ (o : Option Held). IfSome o (λ f. IsFrontOf (project_items c.args.exprs.now (of_rows c.args.front.batch.rows)) f.batch.rows f.fault)) c.in-Some.is c.in_ok-project_batch.ensures in
    rw c.first_of.ensures (front_project c.args.exprs.now items c.args.front.batch.rows c.in-Some.made.batch.rows c.args.front.fault c.in-Some.made.fault h made)
