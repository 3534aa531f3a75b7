use Rattle.std.proofs.Common.{◌≡◌, ◌∙◌, ap, sym, Bool, List, length}
use Rattle.column_batch.specs.Batches.{kept}
use Rattle.scan_run.proofs.FrontSteps.{kept_slice}
use Rattle.scan_run.proofs.front.keep_front.Goals as goal

pub returns-clause-rows : goal.returns-clause-rows
returns-clause-rows c =
    c.in_ok-filter-in-Some.ensures.rows ∙ ap (λ (bits : List Bool). kept bits c.in_ok-part-in-Some.part.rows) c.deref-in-Some.ensures.value
    ∙ ap (kept c.args.tests.keep.items) c.in_ok-part-in-Some.ensures.rows ∙ kept_slice c.args.tests.keep.items c.args.batch.rows c.len.result (c.len.ensures ∙ sym c.deref-in-Some.ensures.len ∙ ap length c.deref-in-Some.ensures.value)
