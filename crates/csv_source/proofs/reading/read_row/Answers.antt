use Rattle.std.proofs.Common.{rules, ◌≡◌, true, Ok, ap, sym, ◌∙◌}
use Rattle.std.proofs.lemmas.Result.{err_from_is_err_and}
use Rattle.csv.specs.Records.{fields_of}
use Rattle.csv_source.specs.CsvItems.{is_bad}
use Rattle.csv_source.specs.Records.{records_left}
use Rattle.csv_source.proofs.ItemSteps.{items_refused, row_given, gives_bad, same_refusal, never_read}
use Rattle.csv_source.proofs.reading.read_row.Goals as goal

pub returns-in_err-row-clause-refused : goal.returns-in_err-row-clause-refused
returns-in_err-row-clause-refused g c e is bad =
    let p = err_from_is_err_and c.from_residual-in_err-row.result c.from_residual-in_err-row.ensures.1 in
    let same : c.in_err-row.field-0.0 ≡ e = sym p.2 ∙ same_refusal _ _ _ (sym p.1 ∙ is) in
    let found : c.in_ok-next_record.field-0 ≡ true = search rules in
    let is_refusal : is_bad c.in_err-row.field-0.0 ≡ true = rw same bad in
    let refuses = gives_bad _ c.in_err-row.field-0.0 _ c.in_err-row.ensures.gives is_refusal in
    rw (← same) (
    items_refused (records_left g.R.Read.remaining c.args.reading.now.reader) (records_left g.R.Read.remaining c.next_record.new.reader)
    c.args.kinds.now c.args.reading.now.number (fields_of c.next_record.new.record) c.in_err-row.field-0.0
    (c.in_ok-next_record.ensures.some c.requires.set (ap Ok found)) c.requires.counts refuses
    )

pub returns-in_err-row-clause-read : goal.returns-in_err-row-clause-read
returns-in_err-row-clause-read g c is =
    let p = err_from_is_err_and c.from_residual-in_err-row.result c.from_residual-in_err-row.ensures.1 in
    never_read _ c.in_err-row.field-0.0 _ c.in_err-row.ensures.gives (sym p.2 ∙ same_refusal _ _ _ (sym p.1 ∙ is))

pub returns-clause-gives : goal.returns-clause-gives
returns-clause-gives g c =
    let found : c.in_ok-next_record.field-0 ≡ true = search rules in
    row_given (records_left g.R.Read.remaining c.args.reading.now.reader) (records_left g.R.Read.remaining c.next_record.new.reader)
    c.args.kinds.now c.args.reading.now.number (fields_of c.next_record.new.record) c.in_ok-row.row
    (c.in_ok-next_record.ensures.some c.requires.set (ap Ok found)) c.requires.counts c.in_ok-row.ensures.gives
