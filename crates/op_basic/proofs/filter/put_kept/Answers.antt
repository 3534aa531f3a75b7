use Rattle.std.proofs.Common.{◌≡◌, ◌++◌, Bool, List, length, map, ap, ◌∙◌, arith}
use Rattle.std.proofs.Math.ListN.{length-map}
use Rattle.column_batch.specs.Batches.{kept}
use Rattle.dfx_value.specs.declared.value.Value.{Value}
use Rattle.logical_plan.specs.Items.{Cells, of_rows, filter_items}
use Rattle.scalar_exprs.specs.Truth.{is_true}
use Rattle.scalar_vector.specs.Fronts.{evaluated}
use Rattle.scalar_vector.proofs.ColumnKinds.{front_short}
use Rattle.operator_poll.specs.Waiting.{as_far, faulted}
use Rattle.operator_poll.proofs.Keeping.{put_far}
use Rattle.op_basic.proofs.Filters.{filter_front}
use Rattle.op_basic.proofs.filter.put_kept.Goals as goal

pub kept_rows-requires : goal.kept_rows-requires
kept_rows-requires c =
    let values : List Value = (evaluated c.args.batch.rows c.args.test.now).values in
    let bits : length c.deref.result.now ≡ length (map is_true values) = ap length (c.deref.ensures.value ∙ c.in_ok-tests.ensures.keep) in
    omega (arith, length-map values is_true, front_short c.args.batch.rows c.args.test.now)

pub returns-clause-items : goal.returns-clause-items
returns-clause-items c =
    let rows : List Cells = c.args.batch.rows in
    let values : List Value = (evaluated rows c.args.test.now).values in
    let bits : c.deref.result.now ≡ map is_true values = c.deref.ensures.value ∙ c.in_ok-tests.ensures.keep in
    let picked : c.in_ok-kept.kept.rows ≡ kept (map is_true values) rows = c.in_ok-kept.ensures.rows ∙ ap (λ (b : List Bool). kept b rows) bits in
    put_far c.args.waiting.now.items c.push.new.self.items c.fail.new.self.items (filter_items c.args.test.now (of_rows rows)) (kept (map is_true values) rows) (evaluated rows c.args.test.now).fault
    (c.in_ok-push.ensures.ok ∙ ap (λ (x : List Cells). as_far (c.args.waiting.now.items ++ of_rows x)) picked)
    (c.fail.ensures.items ∙ ap (λ (f : _). as_far (c.push.new.self.items ++ faulted f)) c.in_ok-tests.ensures.fault)
    (filter_front c.args.test.now rows)
