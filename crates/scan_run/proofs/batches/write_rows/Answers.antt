use Rattle.std.proofs.Common.{◌≡◌, ◌∙◌, ap, sym, Ok, Err, rules}
use Rattle.std.proofs.lemmas.Result.{err_from_is_err_and}
use Rattle.scan_run.proofs.BatchSteps.{writing_none, err_same}
use Rattle.scan_run.proofs.batches.write_rows.Goals as goal

pub loop-more-init : goal.loop-more-init
loop-more-init g c = record {
  going = search rules;
  read = search rules;
  write = search rules;
  more = λ t items before is told. writing_none c.args.body.now items before _ _ is told;
  last = λ f items before table is told. cc;
}

pub returns-in_err-more-clause-met : goal.returns-in_err-more-clause-met
returns-in_err-more-clause-met g c items before table e fault left told is named =
    let p = err_from_is_err_and c.from_residual.result c.from_residual.ensures.1 in
    let same : c.in_err-more.field-0.0 ≡ e = sym p.2 ∙ err_same _ _ _ (sym p.1 ∙ is) in
    c.in_err-more.ensures.met items before table e fault (c.loop-more.invariant.more c.loop-more-test.true items before left told) (ap Err same) named

pub returns-in_err-more-clause-part : goal.returns-in_err-more-clause-part
returns-in_err-more-clause-part g c items before table left told =
    let p = err_from_is_err_and c.from_residual.result c.from_residual.ensures.1 in
    rw p.1 (c.in_err-more.ensures.part items before table (c.loop-more.invariant.more c.loop-more-test.true items before left told))

pub loop-more-preserved : goal.loop-more-preserved
loop-more-preserved g c = record {
  going = search rules;
  read = search rules;
  write = search rules;
  more = λ t items before is told. c.in_ok-more.ensures.more items before (c.loop-more.invariant.more c.loop-more-test.true items before is told) (ap Ok t);
  last = λ f items before table is told. c.in_ok-more.ensures.last items before table (c.loop-more.invariant.more c.loop-more-test.true items before is told) (ap Ok f);
}

pub returns-clause-all : goal.returns-clause-all
returns-clause-all g c items before table is told = c.loop-more.invariant.last c.loop-more-test.false items before table is told
