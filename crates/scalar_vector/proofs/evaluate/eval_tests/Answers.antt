use Rattle.std.proofs.Common.{◌∙◌, ap, sym, length}
use Rattle.std.proofs.Math.ListN.{length-map}
use Rattle.scalar_exprs.specs.Truth.{is_true}
use Rattle.scalar_vector.specs.Fronts.{Front}
use Rattle.scalar_vector.specs.Vectors.{values_of}
use Rattle.scalar_vector.proofs.Batches.{whole_length}
use Rattle.scalar_vector.proofs.evaluate.eval_tests.Goals as goal

pub returns-clause-whole : goal.returns-clause-whole
returns-clause-whole c none = ap length c.in_ok-truths.ensures ∙ length-map (values_of c.in_ok-tests.tests.vector) is_true
    ∙ ap (λ (f : Front). length f.values) c.in_ok-tests.ensures
    ∙ whole_length c.args.batch.now.rows c.args.expr.now (sym (ap (λ (f : Front). f.fault) c.in_ok-tests.ensures) ∙ none)
