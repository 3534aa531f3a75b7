use Rattle.std.proofs.Common.{◌++◌, List, ap, ◌∙◌}
use Rattle.logical_plan.specs.Items.{of_rows, project_items}
use Rattle.scalar_exprs.specs.declared.expr.Expr.{Expr}
use Rattle.operator_poll.specs.Waiting.{as_far}
use Rattle.op_basic.proofs.Projects.{project_took}
use Rattle.op_basic.proofs.project.ProjectOpOperator.accept.Goals as goal

pub returns-clause-took : goal.returns-clause-took
returns-clause-took c op t n h w =
    project_took c.args.self.now.items.items c.args.self.now.waiting.items c.put_projected.new.waiting.items c.args.self.now.ended op t n c.args._input c.args.batch.rows h w
    (c.in_ok-put_projected.ensures.items
    ∙ ap (λ (es : List Expr). as_far (c.args.self.now.waiting.items ++ project_items es (of_rows c.args.batch.rows))) c.deref.ensures.value)
