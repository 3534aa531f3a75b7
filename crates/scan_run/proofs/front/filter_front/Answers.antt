use Rattle.std.proofs.Common.{ap, length, arith}
use Rattle.std.proofs.lemmas.List.{length-map}
use Rattle.scalar_exprs.specs.Truth.{is_true}
use Rattle.scalar_vector.specs.Fronts.{evaluated}
use Rattle.scan_run.proofs.FrontSteps.{filter_gives, length_evaluated}
use Rattle.scan_run.proofs.front.filter_front.Goals as goal

pub keep_front-requires-clause-within : goal.keep_front-requires-clause-within
keep_front-requires-clause-within c =
    omega (arith, ap length c.in_ok-tests.ensures.keep, length-map (evaluated c.args.front.batch.rows c.args.test.now).values is_true, length_evaluated c.args.front.batch.rows c.args.test.now)

pub returns : goal.returns
returns c items h =
    filter_gives c.keep_front.result c.args.test.now items c.args.front.batch.rows c.args.front.fault c.in_ok-tests.tests.fault c.in_ok-tests.tests.keep.items
    c.keep_front.ensures.rows c.keep_front.ensures.fault c.in_ok-tests.ensures.keep c.in_ok-tests.ensures.fault h
