use Rattle.std.proofs.Common.{◌∙◌}
use Rattle.scalar_vector.proofs.Batches.{evaluated_is}
use Rattle.scalar_vector.proofs.Loops.{if_ok_more}
use Rattle.scalar_vector.proofs.evaluate.eval_batch.Goals as goal

pub returns : goal.returns
returns c = if_ok_more _ _ c.eval_part.result (λ p e. e ∙ evaluated_is c.args.batch.now.rows c.rows.result c.args.expr.now c.rows.ensures.rows) c.eval_part.ensures
