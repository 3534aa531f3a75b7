use Rattle.std.proofs.Common.{◌≡◌, ◌∙◌, ap, sym, Ok, Err, [], ℕ, List, subst}
use Rattle.std.proofs.lemmas.Result.{err_from_is_err_and}
use Rattle.scan_run.specs.Written.{batch_rows}
use Rattle.scan_run.specs.Words.{Taken, TakenAll}
use Rattle.scan_run.proofs.BatchSteps.{writing_more, writing_last, wrote_before, wrote_part, wrote_some, made_by, err_same}
use Rattle.scan_run.proofs.batches.write_batch.Goals as goal

pub returns-in_err-more-clause-met : goal.returns-in_err-more-clause-met
returns-in_err-more-clause-met g c items before table e fault w is named =
    let p = err_from_is_err_and c.from_residual.result c.from_residual.ensures.1 in
    let same : c.in_err-more.field-0.0 ≡ e = sym p.2 ∙ err_same _ _ _ (sym p.1 ∙ is) in
    wrote_before c.args.body.now items before table c.args.file _ _ fault w (c.in_err-more.ensures.met w.rest table e fault w.left_is (ap Err same) named)

pub returns-in_err-more-clause-part : goal.returns-in_err-more-clause-part
returns-in_err-more-clause-part g c items before table w =
    let p = err_from_is_err_and c.from_residual.result c.from_residual.ensures.1 in
    rw p.1 (wrote_part c.args.body.now items before table c.args.file _ _ w)

pub returns-in-Ok-clause-more : goal.returns-in-Ok-clause-more
returns-in-Ok-clause-more g c items before w is =
    let t = subst (λ (text : List ℕ). Taken c.args.body.now w.rest text batch_rows c.push_batch.new.scan.left c.push_batch.new.lines) c.clear.ensures (c.in_ok-more.ensures.more w.rest w.left_is is) in
    let written = rw (c.as_slice.ensures, t.made_is) at (c.in-Ok.ensures.ok _ w.written) in
    writing_more c.args.body.now items before _ c.push_batch.new.scan.left _ _ c.push_batch.new.lines w t written

pub returns-in-Ok-clause-last : goal.returns-in-Ok-clause-last
returns-in-Ok-clause-last g c items before table w is =
    let t = subst (λ (text : List ℕ). TakenAll c.args.body.now w.rest text c.push_batch.new.lines) c.clear.ensures (c.in_ok-more.ensures.last w.rest w.left_is is) in
    let written = rw (c.as_slice.ensures, t.made_is) at (c.in-Ok.ensures.ok _ w.written) in
    writing_last c.args.body.now items before table c.args.file _ _ _ c.push_batch.new.lines w t written

pub returns-in-Err-clause-part : goal.returns-in-Err-clause-part
returns-in-Err-clause-part g c items before table w =
    let m = made_by c.in_ok-more.more c.args.body.now w.rest _ c.push_batch.new.scan.left c.push_batch.new.lines
    (λ e. subst (λ (text : List ℕ). Taken c.args.body.now w.rest text batch_rows c.push_batch.new.scan.left c.push_batch.new.lines) c.clear.ensures (c.in_ok-more.ensures.more w.rest w.left_is (ap Ok e)))
    (λ e. subst (λ (text : List ℕ). TakenAll c.args.body.now w.rest text c.push_batch.new.lines) c.clear.ensures (c.in_ok-more.ensures.last w.rest w.left_is (ap Ok e))) in
    let written = rw (c.as_slice.ensures, m.made_is) at (c.in-Err.ensures.err _ w.written) in
    wrote_some c.args.body.now items before table c.args.file _ _ _ c.push_batch.new.lines w m written
