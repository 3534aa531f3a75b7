use Rattle.std.proofs.Common.{◌≡◌, true, false}
use Rattle.csv_source.proofs.RecordSteps.{takes_record, has_no_record}
use Rattle.csv_source.proofs.records.next_record.Goals as goal

pub returns-clause-none : goal.returns-clause-none
returns-clause-none g c set e =
    let none : c.in-Ok.found ≡ false = (cc) in
    has_no_record g.R.Read.remaining c.args.reader.now c.read_byte_record.new.self _ set.config (rw none at (c.in-Ok.ensures.reads set.trim set.ready))

pub returns-clause-some : goal.returns-clause-some
returns-clause-some g c set e =
    let some : c.in-Ok.found ≡ true = (cc) in
    takes_record g.R.Read.remaining c.args.reader.now c.read_byte_record.new.self _ set.config (rw some at (c.in-Ok.ensures.reads set.trim set.ready))
