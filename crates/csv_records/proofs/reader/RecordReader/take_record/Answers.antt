use Rattle.std.proofs.Common.{rules, ◌≡◌, Ok, Some, false}
use Rattle.csv.specs.Machine.{ends_at_end}
use Rattle.csv_records.specs.Left.{bytes_left}
use Rattle.csv_records.specs.Places.{state_of}
use Rattle.csv_records.proofs.RecordSteps.{takes_between}
use Rattle.csv_records.proofs.reader.RecordReader.take_record.Goals as goal

pub returns-in-Ok-Some-clause-some : goal.returns-in-Ok-Some-clause-some
returns-in-Ok-Some-clause-some g c _ =
    let told = g.S.Source.told c.args.source.now in
    let old = c.self.inside.cursor in
    let now = c.take_next.new.cursor in
    let place = c.in-Ok-Some.place in
    let given : c.take_next.result ≡ Ok (Some place) = search rules in
    let ends : ends_at_end (state_of place) ≡ false = search rules in
    takes_between c.args.self.now c.self.inside.after_cr c.is_after_cr-self-inside.result (state_of c.start_after-start.result) (state_of place)
    old.bytes old.at old.fields now.fields told (bytes_left told now.bytes now.at) (search rules)
    c.start_after-start.ensures (c.is_after_cr-self-inside.ensures ends) (c.take_next.ensures.some place given)
