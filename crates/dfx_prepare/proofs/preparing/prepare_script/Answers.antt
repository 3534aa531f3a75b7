use Rattle.dfx_prepare.specs.Preparing.{files_of, prepared_over}
use Rattle.dfx_prepare.proofs.WholeSteps.{memory_answers, answer_goes_on, whole_over}
use Rattle.dfx_prepare.proofs.preparing.prepare_script.Goals as goal

pub returns-clause-prepared : goal.returns-clause-prepared
returns-clause-prepared g c all told =
    answer_goes_on (files_of all c.args.script.now.tables) c.in_ok-paths.paths (prepared_over c.args.script.now c.args.n) c.prepare_over.result
    (rw (c.as_slice.ensures) at (c.in_ok-paths.ensures.found all told))
    (memory_answers c.prepare_over.result (prepared_over c.args.script.now c.args.n c.in_ok-paths.paths) c.prepare_over.ensures.prepared)

pub returns-clause-whole : goal.returns-clause-whole
returns-clause-whole g c =
    whole_over c.args.script.now c.args.n c.in_ok-paths.paths c.prepare_over.result (rw (c.as_slice.ensures) at c.in_ok-paths.ensures.each)
    c.prepare_over.ensures.prepared c.prepare_over.ensures.same
