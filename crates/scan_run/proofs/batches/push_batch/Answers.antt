use Rattle.std.proofs.Common.{◌≡◌, ◌∙◌, ap, sym, Ok, Err, Option, Some, None, List, [], ◌++◌, ◌∷◌, map, length, ◌<◌, subst, Bool, true, refl, arith}
use Rattle.std.proofs.lemmas.Bool.{eqb-true, eqb-false}
use Rattle.csv_source.specs.CsvItems.{is_bad}
use Rattle.csv_source.specs.declared.refused.CsvRefused.{CsvRefused}
use Rattle.csv_columns.specs.ScanView.{GivesFront}
use Rattle.scan_run.specs.Written.{batch_rows}
use Rattle.scan_run.specs.Words.{fault_named}
use Rattle.scan_run.proofs.OverLaws.{clean-nil}
use Rattle.scan_run.proofs.BatchSteps.{taken_batch, taken_last, behind_front, meets_bad, meets_evaluation, err_same, ok_same}
use Rattle.scan_run.proofs.batches.push_batch.Goals as goal

pub returns-in-Err-clause-met : goal.returns-in-Err-clause-met
returns-in-Err-clause-met g c items table e fault left is named =
    let same : c.scan_refused.result ≡ e = err_same _ _ _ is in
    meets_bad c.args.body.now items [] table c.args.file fault c.in-Err.refused c.requires.chain (clean-nil c.args.body.now)
    (ap (fault_named table) (sym c.scan_refused.ensures ∙ same) ∙ named)
    (λ bad. (c.in-Err.ensures.refused items c.in-Err.refused left refl bad, omega arith))

pub returns-in-Err-push_passed-clause-met : goal.returns-in-Err-push_passed-clause-met
returns-in-Err-push_passed-clause-met g c items table e fault left is named =
    let same : c.eval_refused.result ≡ e = err_same _ _ _ is in
    meets_evaluation (Unit {0}) c.args.body.now items c.in-Ok.front.batch.rows table c.args.file c.args.lines.now c.push_passed.new.lines fault c.in-Err-push_passed.refused
    (behind_front items c.in-Ok.front.batch.rows c.in-Ok.front.refused c.next_front.new.self.left (c.in-Ok.ensures.gives items left))
    (ap (fault_named table) (sym c.eval_refused.ensures ∙ same) ∙ named) c.in-Err-push_passed.ensures

pub returns-in-None-clause-more : goal.returns-in-None-clause-more
returns-in-None-clause-more g c items left is =
    let whole : length c.in-Ok.front.batch.rows ≡ batch_rows = eqb-true _ _ (sym c.is_whole.ensures ∙ ok_same Bool _ _ is) in
    taken_batch {A = Unit {0}} tt c.args.body.now items c.args.lines.now c.push_passed.new.lines c.in-Ok.front.batch.rows c.next_front.new.self.left
    (subst (λ (o : Option CsvRefused). GivesFront batch_rows items c.in-Ok.front.batch.rows o c.next_front.new.self.left) c.in-None.is (c.in-Ok.ensures.gives items left)) whole c.in-Ok-push_passed.ensures

pub returns-in-None-clause-last : goal.returns-in-None-clause-last
returns-in-None-clause-last g c items left is =
    taken_last {A = Unit {0}} tt c.args.body.now items c.args.lines.now c.push_passed.new.lines c.in-Ok.front.batch.rows c.next_front.new.self.left
    (subst (λ (o : Option CsvRefused). GivesFront batch_rows items c.in-Ok.front.batch.rows o c.next_front.new.self.left) c.in-None.is (c.in-Ok.ensures.gives items left))
    (eqb-false _ _ (sym c.is_whole.ensures ∙ ok_same Bool _ _ is)) c.in-Ok-push_passed.ensures

pub returns-clause-met : goal.returns-clause-met
returns-clause-met g c items table e fault left is named =
    let same : c.scan_refused-in-Some.result ≡ e = err_same _ _ _ is in
    let behind = subst (λ (o : Option CsvRefused). GivesFront batch_rows items c.in-Ok.front.batch.rows o c.next_front.new.self.left) c.in-Some.is (c.in-Ok.ensures.gives items left) in
    meets_bad c.args.body.now items c.in-Ok.front.batch.rows table c.args.file fault c.in-Some.refused c.requires.chain c.in-Ok-push_passed.ensures.0
    (ap (fault_named table) (sym c.scan_refused-in-Some.ensures ∙ same) ∙ named)
    (λ bad. (behind.is, behind.few))
