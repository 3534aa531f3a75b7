use Rattle.std.proofs.Common.{◌≡◌, ◌++◌, length, ap, sym, ◌∙◌}
use Rattle.column_batch.specs.Batches.{rows_from}
use Rattle.dfx_value.specs.KindedRows.{KindedRows}
use Rattle.logical_plan.specs.Items.{of_rows, project_items}
use Rattle.operator_poll.specs.Waiting.{as_far}
use Rattle.operator_poll.proofs.Keeping.{put_far}
use Rattle.op_basic.proofs.project.put_projected.Goals as goal

pub returns-clause-items : goal.returns-clause-items
returns-clause-items c =
    let rows : c.of_columns.result.rows ≡ rows_from c.in_ok-columns.field-0.columns.items 0 (length c.in_ok-columns.field-0.front.rows) =
    ap (λ (b : KindedRows). b.rows) c.of_columns.ensures ∙ ap (rows_from c.in_ok-columns.field-0.columns.items 0) c.rows.ensures.rows in
    put_far c.args.waiting.now.items c.push.new.self.items c.fail.new.self.items (project_items c.args.items.now (of_rows c.args.batch.rows))
    (rows_from c.in_ok-columns.field-0.columns.items 0 (length c.in_ok-columns.field-0.front.rows)) c.in_ok-columns.field-0.fault
    (c.in_ok-push.ensures.ok ∙ ap (λ (x : _). as_far (c.args.waiting.now.items ++ of_rows x)) rows)
    c.fail.ensures.items (sym c.in_ok-columns.ensures.made.comes)
